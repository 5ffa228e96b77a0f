use Rattle.c2_compare_spec.proofs.TheLaws.{one_claim_binds_or_there_is_evidence}
use Rattle.c2_compare_spec.proofs.laws.one_claim_binds_or_there_is_evidence.Goals as goal

pub returns : goal.returns
returns c = one_claim_binds_or_there_is_evidence
