use Rattle.c2_claim.proofs.TheLaws.{a_written_claim_is_read}
use Rattle.c2_claim.proofs.writing.a_written_claim_is_read.Goals as goal

pub returns : goal.returns
returns c = a_written_claim_is_read
