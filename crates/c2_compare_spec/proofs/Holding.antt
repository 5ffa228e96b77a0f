-- Conditions that all hold: those of a part of a list, of one thing, of one place; and what a condition that
-- holds says.
use Rattle.std.proofs.Common.{◌≡◌, inl, inr, ℕ, zero, suc, ◌+◌, ◌<◌, Bool, true, false, ◌&&◌, ◌||◌, List, [], ◌∷◌, ◌++◌, Option, Some, None, Contains, is_some, is_none, refl, sym, ap, ◌∙◌, subst, arith}
use Rattle.std.proofs.lemmas.Bool.{cases_eq}
use Rattle.c2_rules.proofs.ListLemmas.{contains_none, contains_cons}
use Rattle.c2_rules.specs.Tests.{Test, each, over_all, downward, AllHold}

-- the first condition holds
pub hold_head : (t : Test) (ts : List Test) → AllHold (t ∷ ts) → t.fails ≡ false
hold_head t ts h = h 0 t refl

-- where all conditions hold, those behind the first hold
pub hold_tail : (t : Test) (ts : List Test) → AllHold (t ∷ ts) → AllHold ts
hold_tail t ts h = λ i u e. h (suc i) u e

-- a condition that holds before others that hold
hold_more : (t : Test) (ts : List Test) → t.fails ≡ false → AllHold ts → AllHold (t ∷ ts)
hold_more t ts first rest zero u e = let same : t ≡ u = cc in ap (λ (x : Test). x.fails) (sym same) ∙ first
hold_more t ts first rest (suc i) u e = rest i u e

-- where the conditions of two lists in a row hold, those of the first hold
pub hold_front : (xs ys : List Test) → AllHold (xs ++ ys) → AllHold xs
hold_front [] ys h = λ i u e. absurd cc
hold_front (x ∷ xs) ys h =
    hold_more x xs (hold_head x (xs ++ ys) h) (hold_front xs ys (hold_tail x (xs ++ ys) h))

-- where the conditions of two lists in a row hold, those of the second hold
pub hold_back : (xs ys : List Test) → AllHold (xs ++ ys) → AllHold ys
hold_back [] ys h = h
hold_back (x ∷ xs) ys h = hold_back xs ys (hold_tail x (xs ++ ys) h)

-- where the conditions of all things hold, those of one thing hold, which has some place
pub hold_each : {X : Type 0} (tests : ℕ → X → List Test) (k : ℕ) (xs : List X) → AllHold (each tests k xs)
    → (x : X) → Contains xs x → (i : ℕ) × AllHold (tests i x)
hold_each tests k [] h x c = absurd (contains_none x c)
hold_each tests k (y ∷ ys) h x c =
    elim (contains_cons y x ys c) [
      | inl same ↦ (
        k,
        subst (λ z. AllHold (tests k z)) same
            (hold_front (tests k y) (each tests (k + 1) ys) h),
      )
      | inr rest ↦ hold_each tests (k + 1) ys (hold_back (tests k y) (each tests (k + 1) ys) h) x rest
    ]

-- a condition on each thing holds of one
pub hold_over : {X : Type 0} (test_of : ℕ → X → Test) (k : ℕ) (xs : List X) → AllHold (over_all test_of k xs)
    → (x : X) → Contains xs x → (i : ℕ) × ((test_of i x).fails ≡ false)
hold_over test_of k [] h x c = absurd (contains_none x c)
hold_over test_of k (y ∷ ys) h x c =
    elim (contains_cons y x ys c) [
      | inl same ↦ (
        k,
        ap (λ z. (test_of k z).fails) (sym same)
            ∙ hold_head (test_of k y) (over_all test_of (k + 1) ys) h,
      )
      | inr rest ↦
          hold_over test_of (k + 1) ys (hold_tail (test_of k y) (over_all test_of (k + 1) ys) h) x rest
    ]

-- where the conditions of all places hold, those of one place hold
pub hold_place : (tests_at : ℕ → List Test) (n k : ℕ) → AllHold (downward tests_at n) → k < n
    → AllHold (tests_at k)
hold_place tests_at zero k h lt = absurd (omega arith)
hold_place tests_at (suc n) k h lt =
    elim (cases_eq k n) [
      | inl same ↦ subst (λ j. AllHold (tests_at j)) (sym same)
          (hold_front (tests_at n) (downward tests_at n) h)
      | inr other ↦ hold_place tests_at n k (hold_back (tests_at n) (downward tests_at n) h) (omega arith)
    ]

-- ---- what a condition that holds says

-- a value that isn't missing is there
pub there : {X : Type 0} (o : Option X) → is_none o ≡ false → (x : X) × (o ≡ Some x)
there None e = absurd cc
there (Some x) e = (x, refl)

-- a value is there whose test says so
pub there_too : {X : Type 0} (o : Option X) → is_some o ≡ true → (x : X) × (o ≡ Some x)
there_too None e = absurd cc
there_too (Some x) e = (x, refl)

-- of two that aren't both true, the second isn't where the first is
pub second_fails : (a b : Bool) → a ≡ true → (a && b) ≡ false → b ≡ false
second_fails true b t e = e
second_fails false b t e = absurd cc

-- of two that aren't both true, the first isn't where the second is
pub first_fails : (a b : Bool) → b ≡ true → (a && b) ≡ false → a ≡ false
first_fails true b t e = absurd (let bad = sym t ∙ e in cc (bad))
first_fails false b t e = refl

-- where neither of two is true, the first isn't
pub neither_first : (a b : Bool) → (a || b) ≡ false → a ≡ false
neither_first true b e = absurd cc
neither_first false b e = refl

-- where neither of two is true, the second isn't
pub neither_second : (a b : Bool) → (a || b) ≡ false → b ≡ false
neither_second true b e = absurd cc
neither_second false b e = e
