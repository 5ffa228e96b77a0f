use Rattle.c2_read_manifests.proofs.TheLaws.{one_list_of_claims}
use Rattle.c2_read_manifests.proofs.laws.one_list_of_claims.Goals as goal

pub returns : goal.returns
returns c = one_list_of_claims
