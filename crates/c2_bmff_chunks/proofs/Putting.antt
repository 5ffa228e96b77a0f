-- A list with places replaced by those of a piece, and a part of it.
use Rattle.std.proofs.Common.{◌≡◌, ℕ, zero, suc, ◌+◌, ◌-◌, ◌<◌, ◌≤◌, List, [], ◌∷◌, ◌++◌, length, get_or, take, drop, min, refl, sym, ap, ap₂, ◌∙◌, arith, append-nil}
use Rattle.std.proofs.lemmas.List.{drop_all, length-drop, length-take}
use Rattle.c2_bmff_chunks.specs.Shifted.{put_over, put_over_from}
use Rattle.c2_lemmas.proofs.Lists.{drop_most, take_most, take_none}

-- nothing is put
pub put_none : (at : ℕ) (xs : List ℕ) → put_over at [] xs ≡ xs
put_none at [] = refl
put_none zero (x ∷ xs) = refl
put_none (suc n) (x ∷ xs) = ap (λ (ys : List ℕ). x ∷ ys) (put_none n xs)

-- what is put behind a list leaves it
pub put_behind : (at : ℕ) (piece xs : List ℕ) → length xs ≤ at → put_over at piece xs ≡ xs
put_behind at piece [] h = refl
put_behind zero piece (x ∷ xs) h = absurd (omega (arith, h))
put_behind (suc n) piece (x ∷ xs) h = ap (λ (ys : List ℕ). x ∷ ys) (put_behind n piece xs (omega (arith, h)))

-- a list keeps its length
pub put_len : (at : ℕ) (piece xs : List ℕ) → length (put_over at piece xs) ≡ length xs
put_len at piece [] = refl
put_len zero [] (x ∷ xs) = refl
put_len zero (p ∷ ps) (x ∷ xs) = ap suc (put_len zero ps xs)
put_len (suc n) piece (x ∷ xs) = ap suc (put_len n piece xs)

-- the first places
put_take : (n at : ℕ) (piece xs : List ℕ) → take n (put_over at piece xs) ≡ put_over at piece (take n xs)
put_take zero at piece xs = refl
put_take (suc n) at piece [] = refl
put_take (suc n) zero [] (x ∷ xs) = refl
put_take (suc n) zero (p ∷ ps) (x ∷ xs) = ap (λ (ys : List ℕ). p ∷ ys) (put_take n zero ps xs)
put_take (suc n) (suc m) piece (x ∷ xs) = ap (λ (ys : List ℕ). x ∷ ys) (put_take n m piece xs)

-- the places from one on
pub put_drop : (from at : ℕ) (piece xs : List ℕ)
    → drop from (put_over at piece xs) ≡ put_over_from from at piece (drop from xs)
put_drop zero at piece xs =
    let here : at - 0 ≡ at = omega arith in
    let all : 0 - at ≡ 0 = omega arith in
    sym (ap₂ (λ (n m : ℕ). put_over n (drop m piece) xs) here all)
put_drop (suc q) at piece [] = refl
put_drop (suc q) zero [] (x ∷ xs) =
    sym
    (ap (λ (ps : List ℕ). put_over (0 - suc q) ps (drop q xs)) (drop_all (suc q - 0) [] (omega arith)) ∙ put_none (0 - suc q) (drop q xs))
put_drop (suc q) zero (p ∷ ps) (x ∷ xs) =
    let front : 0 - q ≡ 0 - suc q = omega arith in
    let skip : suc q - 0 ≡ suc (q - 0) = omega arith in
    put_drop q zero ps xs
    ∙ ap₂ (λ (n : ℕ) (ys : List ℕ). put_over n ys (drop q xs)) front (sym (ap (λ (m : ℕ). drop m (p ∷ ps)) skip))
put_drop (suc q) (suc n) piece (x ∷ xs) =
    let front : n - q ≡ suc n - suc q = omega arith in
    let skip : q - n ≡ suc q - suc n = omega arith in
    put_drop q n piece xs ∙ ap₂ (λ (a m : ℕ). put_over a (drop m piece) (drop q xs)) front skip

-- a part of it
pub put_part : (pos n at : ℕ) (piece xs : List ℕ)
    → take n (drop pos (put_over at piece xs)) ≡ put_over_from pos at piece (take n (drop pos xs))
put_part pos n at piece xs =
    ap (take n) (put_drop pos at piece xs) ∙ put_take n (at - pos) (drop (pos - at) piece) (drop pos xs)

-- a piece that ends before the part, or begins behind it, leaves it
pub part_left : (pos at : ℕ) (piece xs : List ℕ) → at + length piece ≤ pos → put_over_from pos at piece xs ≡ xs
part_left pos at piece xs h =
    ap (λ (ps : List ℕ). put_over (at - pos) ps xs) (drop_all (pos - at) piece (omega (arith, h)))
    ∙ put_none (at - pos) xs

-- a piece that begins behind the part leaves it
pub part_right : (pos at : ℕ) (piece xs : List ℕ) → pos + length xs ≤ at → put_over_from pos at piece xs ≡ xs
part_right pos at piece xs h = put_behind (at - pos) (drop (pos - at) piece) xs (omega (arith, h))

-- a list is replaced by one as long
put_all : (piece xs : List ℕ) → length xs ≡ length piece → put_over 0 piece xs ≡ piece
put_all [] [] e = refl
put_all [] (x ∷ xs) e = absurd (omega (arith, e))
put_all (p ∷ ps) [] e = absurd (omega (arith, e))
put_all (p ∷ ps) (x ∷ xs) e = ap (λ (ys : List ℕ). p ∷ ys) (put_all ps xs (omega (arith, e)))

-- the piece stands in the list
pub put_here : (at : ℕ) (piece xs : List ℕ) → at + length piece ≤ length xs
    → take (length piece) (drop at (put_over at piece xs)) ≡ piece
put_here at piece xs h =
    let none : at - at ≡ 0 = omega arith in
    let part : List ℕ = take (length piece) (drop at xs) in
    put_part at (length piece) at piece xs ∙ ap₂ (λ (n m : ℕ). put_over n (drop m piece) part) none none
    ∙ put_all piece part (omega (arith, length-take (length piece) (drop at xs), length-drop at xs, h))

-- a part beside the piece stays
pub put_beside_left : (pos n at : ℕ) (piece xs : List ℕ) → pos + n ≤ at
    → take n (drop pos (put_over at piece xs)) ≡ take n (drop pos xs)
put_beside_left pos n at piece xs h =
    put_part pos n at piece xs
    ∙ part_right pos at piece (take n (drop pos xs)) (omega (arith, h, length-take n (drop pos xs)))

-- a part behind the piece stays
pub put_beside_right : (pos n at : ℕ) (piece xs : List ℕ) → at + length piece ≤ pos
    → take n (drop pos (put_over at piece xs)) ≡ take n (drop pos xs)
put_beside_right pos n at piece xs h = put_part pos n at piece xs ∙ part_left pos at piece (take n (drop pos xs)) h

-- a place before the piece
pub put_get_left : (at i : ℕ) (piece xs : List ℕ) → i < at → get_or (put_over at piece xs) i 0 ≡ get_or xs i 0
put_get_left at i piece [] h = refl
put_get_left zero i piece (x ∷ xs) h = absurd (omega (arith, h))
put_get_left (suc n) zero piece (x ∷ xs) h = refl
put_get_left (suc n) (suc i) piece (x ∷ xs) h = put_get_left n i piece xs (omega (arith, h))

-- a place behind the piece keeps its byte
pub put_get_right : (at i : ℕ) (piece xs : List ℕ) → at + length piece ≤ i
    → get_or (put_over at piece xs) i 0 ≡ get_or xs i 0
put_get_right at i piece [] h = refl
put_get_right zero i [] (x ∷ xs) h = refl
put_get_right zero zero (p ∷ ps) (x ∷ xs) h = absurd (omega (arith, h))
put_get_right zero (suc i) (p ∷ ps) (x ∷ xs) h = put_get_right zero i ps xs (omega (arith, h))
put_get_right (suc n) zero piece (x ∷ xs) h = absurd (omega (arith, h))
put_get_right (suc n) (suc i) piece (x ∷ xs) h = put_get_right n i piece xs (omega (arith, h))

-- a list of bytes with a piece of bytes is one
pub put_bytes : (at : ℕ) (piece xs : List ℕ) → ((i : ℕ) → get_or piece i 0 < 256) → ((i : ℕ) → get_or xs i 0 < 256)
    → (i : ℕ) → get_or (put_over at piece xs) i 0 < 256
put_bytes at piece [] h k i = k i
put_bytes zero [] (x ∷ xs) h k i = k i
put_bytes zero (p ∷ ps) (x ∷ xs) h k zero = h 0
put_bytes zero (p ∷ ps) (x ∷ xs) h k (suc i) = put_bytes zero ps xs (λ n. h (suc n)) (λ n. k (suc n)) i
put_bytes (suc n) piece (x ∷ xs) h k zero = k 0
put_bytes (suc n) piece (x ∷ xs) h k (suc i) = put_bytes n piece xs h (λ m. k (suc m)) i

-- ---- as code puts it

-- the places before, the piece as far as the list goes, and the places behind
as_put : (at : ℕ) (piece xs : List ℕ)
    → take at xs ++ (take (length xs - at) piece ++ drop (at + length piece) xs) ≡ put_over at piece xs
as_put at piece [] =
    let none : length {A = ℕ} [] - at ≡ 0 = omega arith in
    ap₂ (λ (ys zs : List ℕ). ys ++ (take (length {A = ℕ} [] - at) piece ++ zs)) (take_none at)
    (drop_all (at + length piece) [] (omega arith))
    ∙ append-nil (take (length {A = ℕ} [] - at) piece) ∙ ap (λ (n : ℕ). take n piece) none
as_put zero [] (x ∷ xs) =
    ap₂ (λ (ys : List ℕ) (n : ℕ). ys ++ drop n (x ∷ xs)) (take_none (length (x ∷ xs) - 0)) (let e : 0 + length {A = ℕ} [] ≡ 0 = omega arith in e)
as_put zero (p ∷ ps) (x ∷ xs) =
    let room : length (x ∷ xs) - 0 ≡ suc (length xs - 0) = omega arith in
    let skip : 0 + length (p ∷ ps) ≡ suc (0 + length ps) = omega arith in
    ap₂ (λ (n m : ℕ). take n (p ∷ ps) ++ drop m (x ∷ xs)) room skip ∙ ap (λ (ys : List ℕ). p ∷ ys) (as_put zero ps xs)
as_put (suc n) piece (x ∷ xs) =
    let room : length (x ∷ xs) - suc n ≡ length xs - n = omega arith in
    let skip : suc n + length piece ≡ suc (n + length piece) = omega arith in
    ap₂ (λ (k m : ℕ). x ∷ (take n xs ++ (take k piece ++ drop m (x ∷ xs)))) room skip
    ∙ ap (λ (ys : List ℕ). x ∷ ys) (as_put n piece xs)

-- the piece from its first place in the part to its last
pub region : (pos at : ℕ) (piece xs : List ℕ) (first end skip : ℕ) → first ≡ min (at - pos) (length xs)
    → end ≡ min (at + length piece - pos) (length xs) → skip ≡ min (pos - at) (length piece)
    → take first xs ++ (take (end - first) (drop skip piece) ++ drop end xs) ≡ put_over_from pos at piece xs
region pos at piece xs first end skip a b c =
    let rest : List ℕ = drop (pos - at) piece in
    let same : drop skip piece ≡ rest = ap (λ n. drop n piece) c ∙ drop_most (pos - at) piece in
    let front : take first xs ≡ take (at - pos) xs = ap (λ n. take n xs) a ∙ take_most (at - pos) xs in
    let size : length rest ≡ length piece - (pos - at) = length-drop (pos - at) piece in
    let count : min (length xs - (at - pos)) (length rest) ≡ end - first = omega (arith, a, b, size) in
    let middle : take (end - first) rest ≡ take (length xs - (at - pos)) rest =
    ap (λ n. take n rest) (sym count) ∙ take_most (length xs - (at - pos)) rest in
    let past : at - pos + length rest ≡ at + length piece - pos = omega (arith, size) in
    let back : drop end xs ≡ drop (at - pos + length rest) xs =
    ap (λ n. drop n xs) b ∙ drop_most (at + length piece - pos) xs ∙ ap (λ n. drop n xs) (sym past) in
    ap₂ (λ (xs ys : List ℕ). xs ++ ys) front
    (ap₂ (λ (xs ys : List ℕ). xs ++ ys) (ap (take (end - first)) same ∙ middle) back)
    ∙ as_put (at - pos) rest xs
