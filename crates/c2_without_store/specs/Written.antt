-- A list with places replaced by those of a piece.
use Rattle.std.proofs.Common.{◌≡◌, ℕ, zero, suc, ◌+◌, ◌-◌, List, [], ◌∷◌, ◌++◌, length, take, drop, refl, sym, ap, ap₂, ◌∙◌, subst, arith, append-nil}
use Rattle.std.specs.List.{AllByRecursion}
use Rattle.std.proofs.lemmas.List.{drop_all}
use Rattle.c2_without_store.specs.Clears.{written_at, written_from}

-- a list with places from `at` on replaced by those of a piece, a place at a time
abbrev put : ℕ → List ℕ → List ℕ → List ℕ
put at piece [] = []
put zero [] (x ∷ xs) = x ∷ xs
put zero (p ∷ ps) (x ∷ xs) = p ∷ put zero ps xs
put (suc n) piece (x ∷ xs) = x ∷ put n piece xs

-- nothing of an empty list
take_none : (n : ℕ) → take {A = ℕ} n [] ≡ []
take_none zero = refl
take_none (suc n) = refl

-- nothing is put
put_none : (at : ℕ) (xs : List ℕ) → put at [] xs ≡ xs
put_none at [] = refl
put_none zero (x ∷ xs) = refl
put_none (suc n) (x ∷ xs) = ap (λ (ys : List ℕ). x ∷ ys) (put_none n xs)

-- the places that are replaced at once are those that are replaced one at a time
pub as_put : (at : ℕ) (piece xs : List ℕ) → written_at at piece xs ≡ put at piece xs
as_put at piece [] =
    let none : length {A = ℕ} [] - at ≡ 0 = omega arith in
    ap₂ (λ (ys zs : List ℕ). ys ++ (take (length {A = ℕ} [] - at) piece ++ zs)) (take_none at) (drop_all (at + length piece) [] (omega arith))
    ∙ append-nil (take (length {A = ℕ} [] - at) piece) ∙ ap (λ (n : ℕ). take n piece) none
as_put zero [] (x ∷ xs) =
    ap₂ (λ (ys : List ℕ) (n : ℕ). ys ++ drop n (x ∷ xs)) (take_none (length (x ∷ xs) - 0)) (let e : 0 + length {A = ℕ} [] ≡ 0 = omega arith in e)
as_put zero (p ∷ ps) (x ∷ xs) =
    let room : length (x ∷ xs) - 0 ≡ suc (length xs - 0) = omega arith in
    let skip : 0 + length (p ∷ ps) ≡ suc (0 + length ps) = omega arith in
    ap₂ (λ (n m : ℕ). take n (p ∷ ps) ++ drop m (x ∷ xs)) room skip ∙ ap (λ (ys : List ℕ). p ∷ ys) (as_put zero ps xs)
as_put (suc n) piece (x ∷ xs) =
    let room : length (x ∷ xs) - suc n ≡ length xs - n = omega arith in
    let skip : suc n + length piece ≡ suc (n + length piece) = omega arith in
    ap₂ (λ (k m : ℕ). x ∷ (take n xs ++ (take k piece ++ drop m (x ∷ xs)))) room skip ∙ ap (λ (ys : List ℕ). x ∷ ys) (as_put n piece xs)

-- a list with places replaced is as long as the list
put_len : (at : ℕ) (piece xs : List ℕ) → length (put at piece xs) ≡ length xs
put_len at piece [] = refl
put_len zero [] (x ∷ xs) = refl
put_len zero (p ∷ ps) (x ∷ xs) = ap suc (put_len zero ps xs)
put_len (suc n) piece (x ∷ xs) = ap suc (put_len n piece xs)

-- the first places
put_take : (n at : ℕ) (piece xs : List ℕ) → take n (put at piece xs) ≡ put at piece (take n xs)
put_take zero at piece xs = refl
put_take (suc n) at piece [] = refl
put_take (suc n) zero [] (x ∷ xs) = refl
put_take (suc n) zero (p ∷ ps) (x ∷ xs) = ap (λ (ys : List ℕ). p ∷ ys) (put_take n zero ps xs)
put_take (suc n) (suc m) piece (x ∷ xs) = ap (λ (ys : List ℕ). x ∷ ys) (put_take n m piece xs)

-- the places from one on
put_drop : (from at : ℕ) (piece xs : List ℕ) → drop from (put at piece xs) ≡ put (at - from) (drop (from - at) piece) (drop from xs)
put_drop zero at piece xs =
    let here : at - 0 ≡ at = omega arith in
    let all : 0 - at ≡ 0 = omega arith in
    sym (ap₂ (λ (n m : ℕ). put n (drop m piece) xs) here all)
put_drop (suc q) at piece [] = refl
put_drop (suc q) zero [] (x ∷ xs) =
    sym (ap (λ (ps : List ℕ). put (0 - suc q) ps (drop q xs)) (drop_all (suc q - 0) [] (omega arith)) ∙ put_none (0 - suc q) (drop q xs))
put_drop (suc q) zero (p ∷ ps) (x ∷ xs) =
    let front : 0 - q ≡ 0 - suc q = omega arith in
    let skip : suc q - 0 ≡ suc (q - 0) = omega arith in
    put_drop q zero ps xs ∙ ap₂ (λ (n : ℕ) (ys : List ℕ). put n ys (drop q xs)) front (sym (ap (λ (m : ℕ). drop m (p ∷ ps)) skip))
put_drop (suc q) (suc n) piece (x ∷ xs) =
    let front : n - q ≡ suc n - suc q = omega arith in
    let skip : q - n ≡ suc q - suc n = omega arith in
    put_drop q n piece xs ∙ ap₂ (λ (a m : ℕ). put a (drop m piece) (drop q xs)) front skip

-- a list keeps its length
pub written_len : (at : ℕ) (piece xs : List ℕ) → length (written_at at piece xs) ≡ length xs
written_len at piece xs = ap length (as_put at piece xs) ∙ put_len at piece xs

-- a part of it
pub written_part : (from n at : ℕ) (piece xs : List ℕ) → take n (drop from (written_at at piece xs)) ≡ written_from from at piece (take n (drop from xs))
written_part from n at piece xs =
    ap (λ (ys : List ℕ). take n (drop from ys)) (as_put at piece xs) ∙ ap (take n) (put_drop from at piece xs) ∙ put_take n (at - from) (drop (from - at) piece) (drop from xs)
    ∙ sym (as_put (at - from) (drop (from - at) piece) (take n (drop from xs)))

-- what holds of the members of a piece and of a list
put_all : (P : ℕ → Type 0) (at : ℕ) (piece xs : List ℕ) → AllByRecursion P piece → AllByRecursion P xs → AllByRecursion P (put at piece xs)
put_all P at piece [] h k = tt
put_all P zero [] (x ∷ xs) h k = k
put_all P zero (p ∷ ps) (x ∷ xs) h k = (h.0, put_all P zero ps xs h.1 k.1)
put_all P (suc n) piece (x ∷ xs) h k = (k.0, put_all P n piece xs h k.1)

-- holds of the list with the piece
pub written_all : (P : ℕ → Type 0) (at : ℕ) (piece xs : List ℕ) → AllByRecursion P piece → AllByRecursion P xs → AllByRecursion P (written_at at piece xs)
written_all P at piece xs h k = subst (AllByRecursion P) (sym (as_put at piece xs)) (put_all P at piece xs h k)

-- a piece of a list is replaced by one as long
put_here : (old piece ys : List ℕ) → length old ≡ length piece → put 0 piece (old ++ ys) ≡ piece ++ ys
put_here [] [] ys e = put_none 0 ys
put_here [] (p ∷ ps) ys e = absurd (omega (arith, e))
put_here (o ∷ os) [] ys e = absurd (omega (arith, e))
put_here (o ∷ os) (p ∷ ps) ys e = ap (λ (zs : List ℕ). p ∷ zs) (put_here os ps ys (omega (arith, e)))

-- what stands before it stays
put_past : (xs piece zs : List ℕ) → put (length xs) piece (xs ++ zs) ≡ xs ++ put 0 piece zs
put_past [] piece zs = refl
put_past (x ∷ xs) piece zs = ap (λ (ys : List ℕ). x ∷ ys) (put_past xs piece zs)

-- a piece between two others is replaced by one as long
pub put_over : (at : ℕ) (xs old piece ys : List ℕ) → at ≡ length xs → length old ≡ length piece → written_at at piece (xs ++ (old ++ ys)) ≡ xs ++ (piece ++ ys)
put_over at xs old piece ys here e =
    as_put at piece (xs ++ (old ++ ys)) ∙ ap (λ (n : ℕ). put n piece (xs ++ (old ++ ys))) here ∙ put_past xs piece (old ++ ys)
    ∙ ap (λ (zs : List ℕ). xs ++ zs) (put_here old piece ys e)
