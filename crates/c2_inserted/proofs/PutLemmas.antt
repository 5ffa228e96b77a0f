-- A list with a piece put in, and parts of it.
use Rattle.std.proofs.Common.{◌≡◌, ℕ, ◌+◌, ◌-◌, ◌≤◌, List, ◌++◌, length, take, drop, ap, ◌∙◌, arith, refl, sym}
use Rattle.std.proofs.Math.Seq.{drop-append-add}
use Rattle.std.proofs.lemmas.List.{drop-append-le, drop-drop, drop-take, length-drop, length-take-le, take-append-drop, take-append-le, take-take}
use Rattle.c2_spec.specs.PutIn.{put_in}

-- ---- parts of lists

-- what is behind some of the first places of a list, and behind all of these
pub rest_of : (n room : ℕ) (xs : List ℕ) → n ≤ length (take room xs) → drop n (take room xs) ++ drop room xs ≡ drop n xs
rest_of n room xs few =
    sym (drop-append-le n (take room xs) (drop room xs) few) ∙ ap (drop n) (take-append-drop room xs)

-- places that lie in the first of two lists
part_in : (n pos : ℕ) (xs ys : List ℕ) → n + pos ≤ length xs → take n (drop pos (xs ++ ys)) ≡ take n (drop pos xs)
part_in n pos xs ys h =
    ap (take n) (drop-append-le pos xs ys (omega (arith, h)))
    ∙ take-append-le n (drop pos xs) ys (omega (arith, h, length-drop pos xs))

-- places among the first of a list
pub part_of : (n pos at : ℕ) (xs : List ℕ) → n + pos ≤ at → take n (drop pos (take at xs)) ≡ take n (drop pos xs)
part_of n pos at xs h =
    let split : pos + (at - pos) ≡ at = omega (arith, h) in
    ap (λ (k : ℕ). take n (drop pos (take k xs))) (sym split) ∙ ap (take n) (drop-take pos (at - pos) xs)
    ∙ take-take n (at - pos) (drop pos xs) (omega (arith, h))

-- behind a list of so many places
drop_past : (size pos : ℕ) (xs ys : List ℕ) → length xs ≡ size → size ≤ pos → drop pos (xs ++ ys) ≡ drop (pos - size) ys
drop_past size pos xs ys is h =
    let split : pos ≡ length xs + (pos - size) = omega (arith, h, is) in
    ap (λ (k : ℕ). drop k (xs ++ ys)) split ∙ drop-append-add xs ys (pos - size)

-- ---- a piece put in

-- places before the piece
pub part_before : (n pos place : ℕ) (piece base : List ℕ) → place ≤ length base → n + pos ≤ place
    → take n (drop pos (put_in place piece base)) ≡ take n (drop pos base)
part_before n pos place piece base inside h =
    part_in n pos (take place base) (piece ++ drop place base) (omega (arith, h, length-take-le place base inside))
    ∙ part_of n pos place base h

-- places in it
pub part_within : (n pos place : ℕ) (piece base : List ℕ) → place ≤ length base → place ≤ pos
    → n + (pos - place) ≤ length piece → take n (drop pos (put_in place piece base)) ≡ take n (drop (pos - place) piece)
part_within n pos place piece base inside from h =
    ap (take n)
    (drop_past place pos (take place base) (piece ++ drop place base) (length-take-le place base inside) from)
    ∙ part_in n (pos - place) piece (drop place base) h

-- places behind it
pub part_behind : (pos place : ℕ) (piece base : List ℕ) → place ≤ length base → place + length piece ≤ pos
    → drop pos (put_in place piece base) ≡ drop (pos - length piece) base
part_behind pos place piece base inside from =
    let same : place + (pos - place - length piece) ≡ pos - length piece = omega (arith, from) in
    drop_past place pos (take place base) (piece ++ drop place base) (length-take-le place base inside)
    (omega (arith, from))
    ∙ drop_past (length piece) (pos - place) piece (drop place base) refl (omega (arith, from))
    ∙ drop-drop (pos - place - length piece) place base
    ∙ ap (λ (k : ℕ). drop k base) same
