use Rattle.std.proofs.Common.{ℕ, List, Option, IfOk, subst}
use Rattle.c2_spec.specs.C2pa.Claim.{claim_of}
use Rattle.c2_spec.specs.C2pa.Manifest.{claim_bytes}
use Rattle.c2_spec.specs.declared.claim.ClaimVersion.{ClaimVersion}
use Rattle.c2_rules.specs.Readings.{IsParsed}
use Rattle.c2_read_manifests.proofs.keeping.read_claims.Goals as goal

-- the claim bytes are read as what their reader answers
pub returns-in-Some : goal.returns-in-Some
returns-in-Some c = subst (λ (v : ClaimVersion). IfOk c.read_claim.result (λ p. IsParsed (claim_of v) (claim_bytes c.args.claims.now) p)) c.version_of.ensures
    (subst (λ (o : Option (List ℕ)). IfOk c.read_claim.result (λ p. IsParsed (claim_of c.version_of.result) o p)) c.in-Some.ensures c.read_claim.ensures)
