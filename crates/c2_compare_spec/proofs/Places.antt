-- A list from a place on.
use Rattle.std.proofs.Common.{◌≡◌, ℕ, suc, ◌+◌, List, ◌∷◌, Some, drop, slice_get, sym, ap, ◌∙◌, drop-cons, arith}
use Rattle.std.proofs.lemmas.Option.{slice_get_within, get_or_from_slice_get}

-- the rest of a list from a place on
pub rest_at : {X : Type 0} (xs : List X) (i : ℕ) (x : X) → slice_get xs i ≡ Some x
    → drop i xs ≡ x ∷ drop (i + 1) xs
rest_at xs i x at =
    let one : i + 1 ≡ suc i = omega arith in
    drop-cons xs i x (slice_get_within xs i x at)
    ∙ ap (λ y. y ∷ drop (suc i) xs) (get_or_from_slice_get xs i x x at)
    ∙ ap (λ k. x ∷ drop k xs) (sym one)
