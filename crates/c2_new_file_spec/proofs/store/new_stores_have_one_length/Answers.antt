use Rattle.c2_new_file_spec.proofs.StoreLaws.{new_stores_have_one_length}
use Rattle.c2_new_file_spec.proofs.store.new_stores_have_one_length.Goals as goal

pub returns : goal.returns
returns c = new_stores_have_one_length
