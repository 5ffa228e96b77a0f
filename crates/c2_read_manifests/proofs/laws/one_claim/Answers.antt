use Rattle.c2_read_manifests.proofs.TheLaws.{one_claim}
use Rattle.c2_read_manifests.proofs.laws.one_claim.Goals as goal

pub returns : goal.returns
returns c = one_claim
