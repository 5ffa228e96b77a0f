use Rattle.c2_new_content_spec.proofs.OverLaws.{a_valid_store_is_approved}
use Rattle.c2_new_content_spec.proofs.over.a_valid_store_is_approved.Goals as goal

pub returns : goal.returns
returns c = a_valid_store_is_approved
