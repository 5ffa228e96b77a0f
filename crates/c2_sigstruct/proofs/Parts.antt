-- Lists of another length than four have no parts.
use Rattle.std.proofs.Common.{◌≡◌, ◌≢◌, List, [], ◌∷◌, length, None, refl}
use Rattle.c2_spec.specs.declared.cbor.Cbor.{Cbor}
use Rattle.c2_spec.specs.Cbor.View.{items_view}
use Rattle.c2_sigstruct.specs.Parts.{parts_in_items}

-- what isn't four members has no parts
pub not_four : (items : List Cbor) → length items ≢ 4 → parts_in_items (items_view items) ≡ None
not_four [] other = refl
not_four (a ∷ []) other = refl
not_four (a ∷ b ∷ []) other = refl
not_four (a ∷ b ∷ c ∷ []) other = refl
not_four (a ∷ b ∷ c ∷ d ∷ []) other = absurd (other refl)
not_four (a ∷ b ∷ c ∷ d ∷ e ∷ items) other = refl
