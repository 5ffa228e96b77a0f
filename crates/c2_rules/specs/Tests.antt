-- Lists of conditions, and the first of a list that fails.
use Rattle.std.specs.Prelude.{◌≡◌, ℕ, zero, suc, ◌+◌, ◌<◌, Bool, true, false, List, [], ◌∷◌, ◌++◌, Option, Some, None, slice_get, if◌then◌else◌}
use Rattle.c2_rules.specs.declared.answer.Failing.{Failing}
use Rattle.c2_rules.specs.declared.code.Code.{Code}

-- A condition: whether it fails, and what is answered then.
pub record Test : Type 0 where
  pub fails : Bool
  pub failing : Failing

-- a condition with what is answered where it fails
abbrev pub test : Bool → Code → List ℕ → Test
test fails code uri = record { fails = fails; failing = record { code = code; uri = uri } }

-- each thing goes through its cases, thing by thing; the first has place `k`
abbrev pub each : {X : Type 0} → (ℕ → X → List Test) → ℕ → List X → List Test
each tests k [] = []
each tests k (x ∷ xs) = tests k x ++ each tests (k + 1) xs

-- one case is tried over all things; the first has place `k`
abbrev pub over_all : {X : Type 0} → (ℕ → X → Test) → ℕ → List X → List Test
over_all test_of k [] = []
over_all test_of k (x ∷ xs) = test_of k x ∷ over_all test_of (k + 1) xs

-- the lists of the first `n` places one after the other, the last place first
abbrev pub downward : {A : Type 0} → (ℕ → List A) → ℕ → List A
downward list_at zero = []
downward list_at (suc n) = list_at n ++ downward list_at n

-- every condition holds
abbrev pub AllHold : List Test → Type 0
AllHold tests = (i : ℕ) (t : Test) → slice_get tests i ≡ Some t → t.fails ≡ false

-- The condition at this place fails, and each before it holds.
pub record FailsFirst (tests : List Test) (place : ℕ) (failing : Failing) : Type 0 where
  pub fault : Test
  pub at_place : slice_get tests place ≡ Some fault
  pub fails : fault.fails ≡ true
  pub says : failing ≡ fault.failing
  pub earlier : (i : ℕ) (t : Test) → i < place → slice_get tests i ≡ Some t → t.fails ≡ false

-- what the first condition that fails answers
abbrev pub first_failing : List Test → Option Failing
first_failing [] = None
first_failing (t ∷ ts) = if t.fails then Some t.failing else first_failing ts
