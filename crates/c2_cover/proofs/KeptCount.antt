-- How many bytes of a list are kept.
use Rattle.std.proofs.Common.{◌≡◌, ℕ, suc, ◌+◌, Bool, not, true, false, cond, List, [], ◌∷◌, length, refl, sym, ap, ◌∙◌}
use Rattle.std.specs.Prelude.{filter}
use Rattle.std.specs.List.{range_with_len}
use Rattle.c2_spec.specs.Cover.{kept_from}
use Rattle.c2_spec.proofs.Kept.{kept_cons}
use Rattle.c2_cover.specs.Covers.{kept_count}

-- as many bytes are kept as positions
pub length-kept : (ex : ℕ → Bool) (at : ℕ) (xs : List ℕ) → length (kept_from ex at xs) ≡ kept_count ex at (length xs)
length-kept ex at [] = refl
length-kept ex at (x ∷ xs) = ap length (kept_cons ex at x xs) ∙ go (not (ex at)) ∙ ap (λ n. cond (not (ex at)) (suc n) n) (length-kept ex (at + 1) xs) ∙ sym (back (not (ex at)))
  where
    go : (b : Bool)
        → length (cond b (x ∷ kept_from ex (at + 1) xs) (kept_from ex (at + 1) xs)) ≡ cond b (suc (length (kept_from ex (at + 1) xs))) (length (kept_from ex (at + 1) xs))
    go true = refl
    go false = refl

    back : (b : Bool)
        → length (cond b (at ∷ filter (λ i. not (ex i)) (range_with_len (at + 1) (length xs))) (filter (λ i. not (ex i)) (range_with_len (at + 1) (length xs)))) ≡ cond b (suc (kept_count ex (at + 1) (length xs))) (kept_count ex (at + 1) (length xs))
    back true = refl
    back false = refl
