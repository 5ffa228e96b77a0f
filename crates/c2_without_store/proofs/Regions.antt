-- A piece that is replaced in a part of a list: where it begins and ends there.
use Rattle.std.proofs.Common.{◌≡◌, ℕ, zero, suc, ◌+◌, ◌-◌, ◌≤◌, min, List, [], ◌∷◌, ◌++◌, length, take, drop, refl, sym, ap, ap₂, ◌∙◌, arith}
use Rattle.std.specs.Prelude.{replicate}
use Rattle.std.proofs.lemmas.List.{drop-drop, drop_all, length-drop, length-replicate, length-take}
use borrow.Rule.Slice.PartMut.{put_mid, mid_of, post_of}
use Rattle.c2_without_store.specs.Clears.{written_from}
use Rattle.c2_lemmas.proofs.Lists.{drop_most, take_most}

-- the piece from its first place in the part to its last
pub region : (from start : ℕ) (piece xs : List ℕ) (first end : ℕ) → first ≡ min (start - from) (length xs)
    → end ≡ min (start + length piece - from) (length xs)
    → take first xs ++ (take (end - first) (drop (from - start) piece) ++ drop end xs) ≡ written_from from start piece xs
region from start piece xs first end a b =
    let rest : List ℕ = drop (from - start) piece in
    let front : take first xs ≡ take (start - from) xs = ap (λ n. take n xs) a ∙ take_most (start - from) xs in
    let size : length rest ≡ length piece - (from - start) = length-drop (from - start) piece in
    let count : min (length xs - (start - from)) (length rest) ≡ end - first = omega (arith, a, b, size) in
    let middle : take (end - first) rest ≡ take (length xs - (start - from)) rest =
    ap (λ n. take n rest) (sym count) ∙ take_most (length xs - (start - from)) rest in
    let past : start - from + length rest ≡ start + length piece - from = omega (arith, size) in
    let back : drop end xs ≡ drop (start - from + length rest) xs =
    ap (λ n. drop n xs) b ∙ drop_most (start + length piece - from) xs ∙ ap (λ n. drop n xs) (sym past) in
    ap₂ (λ (xs ys : List ℕ). xs ++ ys) front (ap₂ (λ (xs ys : List ℕ). xs ++ ys) middle back)

-- zero bytes less some
drop_zeros : (k n : ℕ) → drop {A = ℕ} k (replicate n 0) ≡ replicate (n - k) 0
drop_zeros zero n = let e : n - 0 ≡ n = omega arith in ap (λ m. replicate {A = ℕ} m 0) (sym e)
drop_zeros (suc k) zero = let e : 0 - suc k ≡ 0 = omega arith in drop_all (suc k) [] (omega arith) ∙ ap (λ m. replicate m 0) (sym e)
drop_zeros (suc k) (suc n) = let e : suc n - suc k ≡ n - k = omega arith in drop_zeros k n ∙ ap (λ m. replicate m 0) (sym e)

-- the first of them
take_zeros : (k n : ℕ) → k ≤ n → take {A = ℕ} k (replicate n 0) ≡ replicate k 0
take_zeros zero n h = refl
take_zeros (suc k) zero h = absurd (omega (arith, h))
take_zeros (suc k) (suc n) h = ap (λ (xs : List ℕ). 0 ∷ xs) (take_zeros k n (omega (arith, h)))

-- zero bytes in a part of a list
pub zeros_region : (from start count : ℕ) (xs : List ℕ) (first end : ℕ) → first ≡ min (start - from) (length xs)
    → end ≡ min (start + count - from) (length xs)
    → take first xs ++ (replicate (end - first) 0 ++ drop end xs) ≡ written_from from start (replicate count 0) xs
zeros_region from start count xs first end a b =
    let size : length {A = ℕ} (replicate count 0) ≡ count = length-replicate count 0 in
    let some : end - first ≤ count - (from - start) = omega (arith, a, b) in
    let zeros : take {A = ℕ} (end - first) (drop (from - start) (replicate count 0)) ≡ replicate (end - first) 0 =
    ap (take {A = ℕ} (end - first)) (drop_zeros (from - start) count)
    ∙ take_zeros (end - first) (count - (from - start)) some in
    ap (λ (ys : List ℕ). take first xs ++ (ys ++ drop end xs)) (sym zeros)
    ∙ region from start (replicate count 0) xs first end a
    (b ∙ ap (λ n. min (start + n - from) (length xs)) (sym size))

-- zero bytes in a part of a list, as a write of them to a part of a slice leaves it
pub zeros_put : (from start count : ℕ) (xs new : List ℕ) (first end : ℕ) → first ≡ min (start - from) (length xs)
    → end ≡ min (start + count - from) (length xs) → new ≡ replicate (length (mid_of first (end - first) xs)) 0
    → put_mid first (end - first) xs new ≡ written_from from start (replicate count 0) xs
zeros_put from start count xs new first end a b is =
    let long : length (mid_of first (end - first) xs) ≡ end - first =
    omega (arith, a, b, length-take (end - first) (drop first xs), length-drop first xs) in
    let place : first + (end - first) ≡ end = omega (arith, a, b) in
    let part : new ≡ replicate (end - first) 0 = is ∙ ap (λ n. replicate {A = ℕ} n 0) long in
    let back : post_of first (end - first) xs ≡ drop end xs =
    drop-drop (end - first) first xs ∙ ap (λ n. drop n xs) place in
    ap₂ (λ (ys zs : List ℕ). take first xs ++ (ys ++ zs)) part back ∙ zeros_region from start count xs first end a b
