use Rattle.c2_read_manifests.proofs.TheLaws.{each_list_is_an_item_or_not_one, each_list_is_an_item_or_not_some}
use Rattle.c2_read_manifests.proofs.laws.each_list_is_an_item_or_not.Goals as goal

pub returns-clause-some : goal.returns-clause-some
returns-clause-some c = each_list_is_an_item_or_not_some

pub returns-clause-one : goal.returns-clause-one
returns-clause-one c = each_list_is_an_item_or_not_one
