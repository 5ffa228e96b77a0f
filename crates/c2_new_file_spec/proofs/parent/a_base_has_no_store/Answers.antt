use Rattle.c2_new_file_spec.proofs.ParentLaws.{a_base_has_no_store}
use Rattle.c2_new_file_spec.proofs.parent.a_base_has_no_store.Goals as goal

pub returns : goal.returns
returns c = a_base_has_no_store
