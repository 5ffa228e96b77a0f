-- Lists, pieces of them, and the members that pass a test.
use Rattle.std.proofs.Common.{◌≡◌, ℕ, suc, ◌+◌, ◌-◌, ◌<◌, ◌≤◌, Bool, ◌||◌, List, [], ◌∷◌, ◌++◌, length, get_or, take, drop, refl, sym, ap, ◌∙◌, arith}
use Rattle.std.specs.Prelude.{All}
use Rattle.std.specs.List.{list_any}
use Rattle.std.proofs.lemmas.List.{drop-take, length-map, take-take, take_more}
use Rattle.c2_spec.specs.Bmff.Boxes.{Box, box_len}
use Rattle.c2_spec.specs.Bmff.Paths.{placed_from}
use Rattle.c2_bmff_rows.specs.Rows.{HasHeader, IsBoxWithin, IsRowWithin, row_of, rows_of}
use Rattle.c2_bmff_rows.specs.declared.row.RootBox.{RootBox}
use Rattle.c2_lemmas.proofs.Bools.{or_false, or_join}

-- a piece of the first bytes
pub piece_of : (most from count : ℕ) (xs : List ℕ) → from + count ≤ most
    → take count (drop from (take most xs)) ≡ take count (drop from xs)
piece_of most from count xs h =
    let m : most ≡ from + (most - from) = omega (arith, h) in
    ap (λ n. take count (drop from (take n xs))) m ∙ ap (take count) (drop-take from (most - from) xs)
    ∙ take-take count (most - from) (drop from xs) (omega (arith, h))

-- some member of a list with one more at its end passes where one of the list or that one does
pub any_append : {A : Type 0} (p : A → Bool) (xs : List A) (x : A) → list_any p (xs ++ x ∷ []) ≡ (list_any p xs || p x)
any_append p [] x = or_false (p x)
any_append p (y ∷ ys) x = ap (λ b. p y || b) (any_append p ys x) ∙ sym (or_join (p y) (list_any p ys) (p x))

-- one more member
pub any_more : {A : Type 0} (p : A → Bool) (xs : List A) (i : ℕ) (d : A) (old : Bool) → i < length xs
    → (old || list_any p (take (i + 1) xs)) ≡ ((old || list_any p (take i xs)) || p (get_or xs i d))
any_more p xs i d old inside =
    ap (λ b. old || b) (ap (list_any p) (take_more xs i d inside) ∙ any_append p (take i xs) (get_or xs i d))
    ∙ sym (or_join old (list_any p (take i xs)) (p (get_or xs i d)))

-- boxes that end in a source and have headers are rows inside it
pub rows_within : (size : ℕ) (rows : List RootBox) → All (IsBoxWithin size) rows → All HasHeader rows
    → All (IsRowWithin size) rows
rows_within size rows ends headed k d lt = let h : HasHeader (get_or rows k d) = headed k d lt in (ends k d lt, h.0, h.1)

-- as many places as boxes
pub length-placed : (p : ℕ) (bs : List Box) → length (placed_from p bs) ≡ length bs
length-placed p [] = refl
length-placed p (b ∷ bs) = ap suc (length-placed (p + box_len b) bs)

-- boxes have as many rows as they are
pub length-rows : (bs : List Box) → length (rows_of bs) ≡ length bs
length-rows bs = length-map (placed_from 0 bs) row_of ∙ length-placed 0 bs
