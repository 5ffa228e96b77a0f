use Rattle.c2_compare_spec.proofs.TheLaws.{equal_claim_bytes_are_one_claim}
use Rattle.c2_compare_spec.proofs.laws.equal_claim_bytes_are_one_claim.Goals as goal

pub returns : goal.returns
returns c = equal_claim_bytes_are_one_claim
