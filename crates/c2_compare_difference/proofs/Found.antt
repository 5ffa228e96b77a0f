-- The first difference in lists of pairs that are joined.
use Rattle.std.proofs.Common.{◌≡◌, ℕ, zero, suc, ◌+◌, ◌-◌, ◌<◌, List, [], ◌∷◌, ◌++◌, Option, Some, None, Result, Ok, Err, IfOk, drop, slice_get, refl, sym, ap, ◌∙◌, arith}
use Rattle.std.specs.List.{find, flat_map}
use Rattle.std.specs.Option.{option_map, option_or}
use Rattle.std.proofs.lemmas.List.Folds.{find-append}
use Rattle.c2_rules.specs.Tests.{downward}
use Rattle.c2_compare_spec.specs.Evidence.{ListPair, do_differ}
use Rattle.c2_compare_spec.proofs.Places.{rest_at}
use Rattle.c2_compare_evidence.specs.Differing.{IsFirstOf, view}
use Rattle.c2_compare_evidence.specs.Shown.{ShownPair, shown}
use Rattle.c2_compare_evidence.specs.declared.lists.Difference.{Difference}

-- ---- one list and another

-- the first of two that is there
some_first : (a b : Option ListPair) (v : ShownPair) → Some v ≡ option_map shown a
    → Some v ≡ option_map shown (option_or a b)
some_first None b v e = absurd cc
some_first (Some p) b v e = e

-- the second where the first is missing
none_first : (a b : Option ListPair) (o : Option ShownPair) → None ≡ option_map shown a
    → o ≡ option_map shown b → o ≡ option_map shown (option_or a b)
none_first None b o e f = f
none_first (Some p) b o e f = absurd cc

-- what is found in the first list is found in both
pub found_in_first : (xs ys : List ListPair) (v : ShownPair) → Some v ≡ option_map shown (find do_differ xs)
    → Some v ≡ option_map shown (find do_differ (xs ++ ys))
found_in_first xs ys v e =
    some_first (find do_differ xs) (find do_differ ys) v e
    ∙ ap (option_map shown) (sym (find-append do_differ xs ys))

-- where nothing is found in the first list, what is found in the second is found in both
pub found_in_second : (xs ys : List ListPair) (o : Option ShownPair)
    → None ≡ option_map shown (find do_differ xs) → o ≡ option_map shown (find do_differ ys)
    → o ≡ option_map shown (find do_differ (xs ++ ys))
found_in_second xs ys o e f =
    none_first (find do_differ xs) (find do_differ ys) o e f
    ∙ ap (option_map shown) (sym (find-append do_differ xs ys))

-- what is found of one pair alone is found with others behind it
pub found_first : (p : ListPair) (ps : List ListPair) (v : ShownPair)
    → Some v ≡ option_map shown (find do_differ (p ∷ []))
    → Some v ≡ option_map shown (find do_differ (p ∷ ps))
found_first p ps v e = found_in_first (p ∷ []) ps v e

-- where nothing is found of a pair, what is found of those behind it is found of all
pub found_second : (p : ListPair) (ps : List ListPair) (o : Option ShownPair)
    → None ≡ option_map shown (find do_differ (p ∷ [])) → o ≡ option_map shown (find do_differ ps)
    → o ≡ option_map shown (find do_differ (p ∷ ps))
found_second p ps o e f = found_in_second (p ∷ []) ps o e f

-- ---- a loop over things whose pairs are joined

-- where nothing is found before a thing, what is found of it is found of all
pub each_found : {X : Type 0} (f : X → List ListPair) (xs : List X) (i : ℕ) (x : X) (v : ShownPair)
    → slice_get xs i ≡ Some x
    → option_map shown (find do_differ (flat_map f xs))
    ≡ option_map shown (find do_differ (flat_map f (drop i xs)))
    → Some v ≡ option_map shown (find do_differ (f x))
    → Some v ≡ option_map shown (find do_differ (flat_map f xs))
each_found f xs i x v at so_far found =
    found_in_first (f x) (flat_map f (drop (i + 1) xs)) v found
    ∙ ap (λ z. option_map shown (find do_differ (flat_map f z))) (sym (rest_at xs i x at)) ∙ sym so_far

-- where nothing is found of it either, all is found of those behind it
pub each_passed : {X : Type 0} (f : X → List ListPair) (xs : List X) (i : ℕ) (x : X)
    → slice_get xs i ≡ Some x
    → option_map shown (find do_differ (flat_map f xs))
    ≡ option_map shown (find do_differ (flat_map f (drop i xs)))
    → None ≡ option_map shown (find do_differ (f x))
    → option_map shown (find do_differ (flat_map f xs))
    ≡ option_map shown (find do_differ (flat_map f (drop (i + 1) xs)))
each_passed f xs i x at so_far none =
    so_far ∙ ap (λ z. option_map shown (find do_differ (flat_map f z))) (rest_at xs i x at)
    ∙ sym (found_in_second (f x) (flat_map f (drop (i + 1) xs))
    (option_map shown (find do_differ (flat_map f (drop (i + 1) xs)))) none refl)

-- ---- a loop over places, the last first

-- the places below one
down_at : (f : ℕ → List ListPair) (i : ℕ) → 0 < i → downward f i ≡ f (i - 1) ++ downward f (i - 1)
down_at f zero lt = absurd (omega (arith, lt))
down_at f (suc i) lt = let one : suc i - 1 ≡ i = omega arith in ap (λ k. f k ++ downward f k) (sym one)

-- where nothing is found at later places, what is found at this one is found of all
pub down_found : (f : ℕ → List ListPair) (n i : ℕ) (v : ShownPair) → 0 < i
    → option_map shown (find do_differ (downward f n)) ≡ option_map shown (find do_differ (downward f i))
    → Some v ≡ option_map shown (find do_differ (f (i - 1)))
    → Some v ≡ option_map shown (find do_differ (downward f n))
down_found f n i v lt so_far found =
    found_in_first (f (i - 1)) (downward f (i - 1)) v found
    ∙ ap (λ z. option_map shown (find do_differ z)) (sym (down_at f i lt)) ∙ sym so_far

-- where nothing is found at it either, all is found at those before it
pub down_passed : (f : ℕ → List ListPair) (n i : ℕ) → 0 < i
    → option_map shown (find do_differ (downward f n)) ≡ option_map shown (find do_differ (downward f i))
    → None ≡ option_map shown (find do_differ (f (i - 1)))
    → option_map shown (find do_differ (downward f n)) ≡ option_map shown (find do_differ (downward f (i - 1)))
down_passed f n i lt so_far none =
    so_far ∙ ap (λ z. option_map shown (find do_differ z)) (down_at f i lt)
    ∙ sym (found_in_second (f (i - 1)) (downward f (i - 1))
    (option_map shown (find do_differ (downward f (i - 1)))) none refl)

-- ---- one list and another, unless memory runs out

-- where nothing is found in the first list, what is found in the second is found in both
pub found_after : {E : Type 0} (xs ys : List ListPair) (r : Result (Option Difference) E)
    → None ≡ option_map shown (find do_differ xs)
    → IfOk r (IsFirstOf ys) → IfOk r (IsFirstOf (xs ++ ys))
found_after xs ys (Ok o) none h = found_in_second xs ys (option_map view o) none h
found_after xs ys (Err e) none h = tt
