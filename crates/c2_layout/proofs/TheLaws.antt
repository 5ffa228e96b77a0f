-- The laws of this crate, for the proofs of the crates above it.
use Rattle.c2_claim.specs.Written.{claim_item}
use Rattle.c2_claim.specs.declared.writing.ClaimParts.{ClaimParts as AnyParts}
use Rattle.c2_layout.proofs.LegalClaims.{claim_legal}
use Rattle.c2_layout.proofs.References.{ingredient_label}
use Rattle.c2_new_file_spec.specs.Written.{IsIngredientLabel}
use Rattle.c2_spec.specs.Cbor.Legal.{IsLegal}
use Rattle.c2_spec.specs.Jumbf.Writing.{IsWrittenLabel}
use Rattle.std.specs.Prelude.{List, ℕ}

-- the item of a claim that is made of parts, whatever they are, is legal, so that nothing but memory fails where it is encoded
pub a_claim_of_parts_is_legal : (p : AnyParts) → IsLegal (claim_item p)
a_claim_of_parts_is_legal = λ p. claim_legal p

-- the label of an ingredient may be written, the first in a manifest or the second, though no definition may have it
pub ingredient_labels_may_be_written : (label : List ℕ) → IsIngredientLabel label → IsWrittenLabel label
ingredient_labels_may_be_written = ingredient_label
