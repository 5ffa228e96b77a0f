-- The laws of this crate, for the proofs of the crates above it.
use Rattle.c2_claim.proofs.Written.{claim_back}
use Rattle.c2_claim.specs.Written.{claim_from}
use Rattle.c2_claim.specs.declared.writing.ClaimParts.{ClaimParts as AnyParts}
use Rattle.c2_spec.specs.C2pa.Claim.{claim_of}
use Rattle.c2_spec.specs.Cbor.Deterministic.{sorted}
use Rattle.c2_spec.specs.declared.claim.ClaimVersion.TheVariants.{V2}
use Rattle.std.specs.Prelude.{Ok, ◌≡◌}
use Rattle.c2_claim.specs.Written as form

-- a claim that is made of parts, whatever they are, is read as these parts, under version 2
pub a_written_claim_is_read : (p : AnyParts) → claim_of V2 (sorted (form.claim_item p)) ≡ Ok (claim_from p)
a_written_claim_is_read p = claim_back p
