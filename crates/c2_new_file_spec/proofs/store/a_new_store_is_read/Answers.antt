use Rattle.c2_new_file_spec.proofs.StoreLaws.{a_new_store_is_read}
use Rattle.c2_new_file_spec.proofs.store.a_new_store_is_read.Goals as goal

pub returns : goal.returns
returns c = a_new_store_is_read
