use Rattle.c2_assertion.proofs.TheLaws.{written_items_have_plain_keys_bmff, written_items_have_plain_keys_data, written_items_have_plain_keys_ingredient}
use Rattle.c2_assertion.proofs.laws.written_items_have_plain_keys.Goals as goal

pub returns-clause-data : goal.returns-clause-data
returns-clause-data c = written_items_have_plain_keys_data

pub returns-clause-bmff : goal.returns-clause-bmff
returns-clause-bmff c = written_items_have_plain_keys_bmff

pub returns-clause-ingredient : goal.returns-clause-ingredient
returns-clause-ingredient c = written_items_have_plain_keys_ingredient
