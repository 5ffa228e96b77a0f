use Rattle.c2_assertion.proofs.TheLaws.{a_written_data_hash_is_read}
use Rattle.c2_assertion.proofs.laws.a_written_data_hash_is_read.Goals as goal

pub returns : goal.returns
returns c = a_written_data_hash_is_read
