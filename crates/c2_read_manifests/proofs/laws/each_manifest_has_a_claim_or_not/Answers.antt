use Rattle.c2_read_manifests.proofs.TheLaws.{each_manifest_has_a_claim_or_not}
use Rattle.c2_read_manifests.proofs.laws.each_manifest_has_a_claim_or_not.Goals as goal

pub returns : goal.returns
returns c = each_manifest_has_a_claim_or_not
