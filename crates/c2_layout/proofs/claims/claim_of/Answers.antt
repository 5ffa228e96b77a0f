use Rattle.std.proofs.Common.{◌≡◌, subst}
use Rattle.std.specs.Prelude.{IfOk}
use Rattle.c2_spec.specs.Cbor.Deterministic.{deterministic}
use Rattle.c2_claim.specs.Written.{claim_item}
use Rattle.c2_claim.specs.declared.writing.ClaimParts.{ClaimParts}
use Rattle.c2_layout.proofs.claims.claim_of.Goals as goal

-- it is written of the definition's parts
pub returns : goal.returns
returns c =
    subst (λ (p : ClaimParts). IfOk c.write.result (λ claim. claim ≡ deterministic (claim_item p))) c.in_ok-parts.ensures
    c.write.ensures.written
