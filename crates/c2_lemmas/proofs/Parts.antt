-- Parts of lists: their first members and the rest, what holds of each member, and whether they are equal.
use Rattle.std.proofs.Common.{List, [], ap, arith, bytes_eq, drop, length, nat_eq, refl, subst, suc, sym, take, ℕ, ◌&&◌, ◌++◌, ◌∙◌, ◌∷◌, ◌≡◌}
use Rattle.std.proofs.lemmas.List.{take-append-drop}
use Rattle.std.specs.List.{AllByRecursion}
use Rattle.c2_lemmas.proofs.Bools.{and_join}
use Rattle.c2_lemmas.proofs.Each.{each_back, each_front}

-- equal lists have the same first member
pub first_same : {X : Type 0} (x y : X) (xs ys : List X) → x ∷ xs ≡ y ∷ ys → x ≡ y
first_same x y xs ys e = cc (e)

-- equal lists have the same members behind the first
pub others_same : {X : Type 0} (x y : X) (xs ys : List X) → x ∷ xs ≡ y ∷ ys → xs ≡ ys
others_same x y xs ys e = cc (e)

-- what holds of each member of a list holds of each of its first `n`
pub each_take : {X : Type 0} (P : X → Type 0) (n : ℕ) (xs : List X) → AllByRecursion P xs → AllByRecursion P (take n xs)
each_take P n xs h = each_front P (take n xs) (drop n xs) (subst (AllByRecursion P) (sym (take-append-drop n xs)) h)

-- what holds of each member of a list holds of each behind its first `n`
pub each_drop : {X : Type 0} (P : X → Type 0) (n : ℕ) (xs : List X) → AllByRecursion P xs → AllByRecursion P (drop n xs)
each_drop P n xs h = each_back P (take n xs) (drop n xs) (subst (AllByRecursion P) (sym (take-append-drop n xs)) h)

-- two lists whose first parts are equally long are equal where both parts are
pub eq_append : (xs ys us vs : List ℕ) → length xs ≡ length ys
    → bytes_eq (xs ++ us) (ys ++ vs) ≡ (bytes_eq xs ys && bytes_eq us vs)
eq_append [] [] us vs e = refl
eq_append [] (y ∷ ys) us vs e = absurd (cc (e))
eq_append (x ∷ xs) [] us vs e = absurd (cc (e))
eq_append (x ∷ xs) (y ∷ ys) us vs e =
    let f : length xs ≡ length ys = let g : suc (length xs) ≡ suc (length ys) = e in omega (arith, g) in
    ap (λ b. nat_eq x y && b) (eq_append xs ys us vs f) ∙ and_join (nat_eq x y) (bytes_eq xs ys) (bytes_eq us vs)
