-- Lists: their lengths, and parts of them.
use Rattle.std.proofs.Common.{Bool, List, Option, Some, [], ap, ap₂, append-nil, arith, bytes_eq, cond, drop, false, get_or, inl, inr, is_some, length, map, min, position, refl, slice_get, suc, sym, take, true, zero, ℕ, ⊎_elim, ◌++◌, ◌+◌, ◌<◌, ◌||◌, ◌∙◌, ◌∷◌, ◌≡◌, ◌≤◌}
use Rattle.std.proofs.lemmas.Bool.{cases_lt}
use Rattle.std.proofs.lemmas.Iterator.Adapters.{position_from-zero}
use Rattle.std.proofs.lemmas.List.{drop-take, drop_all, drop_more, take-append-drop, take-take, take_all}
use Rattle.std.proofs.lemmas.Slice.Eq.{bytes_eq-Decides}
use Rattle.std.specs.List.{list_any, position_from}

-- two lists that are none together
pub both_none : {X : Type 0} (xs ys : List X) → xs ++ ys ≡ [] → (xs ≡ []) × (ys ≡ [])
both_none [] ys e = (refl, e)
both_none (x ∷ xs) ys e = absurd (cc (e))

-- from a place on a list begins with the member there
pub drop_first : {X : Type 0} (all : List X) (n : ℕ) (x : X) → n < length all → x ≡ get_or all n x
    → drop n all ≡ x ∷ drop (n + 1) all
drop_first {X} all n x l e = drop_more all n x l ∙ ap (λ (y : X). y ∷ drop (n + 1) all) (sym e)

-- no more than all of a list is passed over
pub drop_most : (n : ℕ) (xs : List ℕ) → drop (min n (length xs)) xs ≡ drop n xs
drop_most n xs = ⊎_elim
    (λ l. let m : min n (length xs) ≡ n = omega (arith, l) in ap (λ k. drop k xs) m)
    (λ g. let m : min n (length xs) ≡ length xs = omega (arith, g) in ap (λ k. drop k xs) m ∙ drop_all (length xs) xs (omega arith) ∙ sym (drop_all n xs g))
    (cases_lt n (length xs))

-- bytes that compare as equal are the same
pub equal_bytes : (xs ys : List ℕ) → bytes_eq xs ys ≡ true → xs ≡ ys
equal_bytes xs ys e = (bytes_eq-Decides xs ys).0 e

-- what stands at a place of the front of a list is what stands there in the list
pub get_in_front : {X : Type 0} (xs : List X) (n j : ℕ) → j < n → slice_get (take n xs) j ≡ slice_get xs j
get_in_front [] zero j lt = refl
get_in_front [] (suc n) j lt = refl
get_in_front (y ∷ ys) zero j lt = absurd (omega arith)
get_in_front (y ∷ ys) (suc n) zero lt = refl
get_in_front (y ∷ ys) (suc n) (suc j) lt = get_in_front ys n j (omega arith)

-- a map keeps the length
pub mapped_length : {A B : Type 0} (f : A → B) (xs : List A) → length (map f xs) ≡ length xs
mapped_length f [] = refl
mapped_length f (x ∷ xs) = ap suc (mapped_length f xs)

-- two empty lists are empty together
pub none_both : {X : Type 0} (xs ys : List X) → xs ≡ [] → ys ≡ [] → xs ++ ys ≡ []
none_both {X} xs ys e h = ap₂ (λ (a b : List X). a ++ b) e h

-- counted from any number, the first place of a label is that of the first thing with such a label
pub position_from_map : {X Y : Type 0} (f : X → Y) (p : Y → Bool) (i : ℕ) (xs : List X)
    → position_from p i (map f xs) ≡ position_from (λ x. p (f x)) i xs
position_from_map f p i [] = refl
position_from_map f p i (x ∷ xs) = ap (λ (o : Option ℕ). cond (p (f x)) (Some i) o) (position_from_map f p (i + 1) xs)

-- bytes are equal to themselves by the test
pub same_bytes : (a : List ℕ) → bytes_eq a a ≡ true
same_bytes a = (bytes_eq-Decides a a).1 refl

-- counted from any number, there is a first place just where some element passes
pub some_position : {X : Type 0} (p : X → Bool) (i : ℕ) (xs : List X) → is_some (position_from p i xs) ≡ list_any p xs
some_position p i [] = refl
some_position {X} p i (x ∷ xs) = by (p x) (some_position p (i + 1) xs)
  where
    by : (b : Bool) → is_some (position_from p (i + 1) xs) ≡ list_any p xs
        → is_some (cond b (Some i) (position_from p (i + 1) xs)) ≡ (b || list_any p xs)
    by true h = refl
    by false h = h

-- so much of a list is no more than all
pub take_at_most : (n : ℕ) (xs : List ℕ) → take n xs ≡ take (min n (length xs)) xs
take_at_most n xs =
    elim (cases_lt n (length xs)) [
      | inl lt ↦ let e : n ≡ min n (length xs) = omega (arith, lt) in ap (λ k. take k xs) e
      | inr le ↦ let e : length xs ≤ min n (length xs) = omega (arith, le) in take_all n xs le ∙ sym (take_all (min n (length xs)) xs e)
    ]

-- no more than all of a list is taken
pub take_most : (n : ℕ) (xs : List ℕ) → take (min n (length xs)) xs ≡ take n xs
take_most n xs = ⊎_elim
    (λ l. let m : min n (length xs) ≡ n = omega (arith, l) in ap (λ k. take k xs) m)
    (λ g. let m : min n (length xs) ≡ length xs = omega (arith, g) in ap (λ k. take k xs) m ∙ take_all (length xs) xs (omega arith) ∙ sym (take_all n xs g))
    (cases_lt n (length xs))

-- a prefix of nothing
pub take_none : (n : ℕ) → take {A = ℕ} n [] ≡ []
take_none zero = refl
take_none (suc n) = refl

-- the first bytes in two parts
pub take_split : {X : Type 0} (m n : ℕ) (xs : List X) → take (m + n) xs ≡ take m xs ++ take n (drop m xs)
take_split m n xs =
    sym (take-append-drop m (take (m + n) xs))
    ∙ ap (λ ys. ys ++ drop m (take (m + n) xs)) (take-take m (m + n) xs (omega arith))
    ∙ ap (λ ys. take m xs ++ ys) (drop-take m n xs)

-- a list with nothing behind it is that list
pub nothing_after : (xs : List ℕ) → xs ++ [] ≡ xs
nothing_after xs = append-nil xs

-- the first place whose image passes a test is the first place in the mapped list that passes it
pub position_map : {X Y : Type 0} (f : X → Y) (p : Y → Bool) (xs : List X)
    → position p (map f xs) ≡ position (λ x. p (f x)) xs
position_map f p xs =
    position_from-zero p (map f xs) ∙ position_from_map f p 0 xs ∙ sym (position_from-zero (λ x. p (f x)) xs)
