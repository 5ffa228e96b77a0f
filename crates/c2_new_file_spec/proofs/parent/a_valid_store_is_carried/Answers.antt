use Rattle.c2_new_file_spec.proofs.ParentLaws.{a_valid_store_is_carried_carried, a_valid_store_is_carried_some}
use Rattle.c2_new_file_spec.proofs.parent.a_valid_store_is_carried.Goals as goal

pub returns-clause-carried : goal.returns-clause-carried
returns-clause-carried c = a_valid_store_is_carried_carried

pub returns-clause-some : goal.returns-clause-some
returns-clause-some c = a_valid_store_is_carried_some
