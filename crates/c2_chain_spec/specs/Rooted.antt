-- A chain of manifests as a later one sees it whose ingredients name some of them: what is reached from those places, what is redacted
-- and touched by what is reached, and what the rules of each manifest see. None of them is the active one (C2PA Technical
-- Specification 2.x, "Ingredient" and "Redaction of assertions").
--
-- What is reached and what is redacted stand here as relations, and then as the tests by which the rules go.
use Rattle.std.specs.Prelude.{◌≡◌, ◌↔◌, ◌<◌, ℕ, nat_lt, nat_eq, Bool, true, false, ◌&&◌, ◌||◌, List, [], ◌∷◌, Contains, Option, Some, None, length, slice_get, if◌then◌else◌}
use Rattle.std.specs.List.{AllByRecursion, list_any}
use Rattle.c2_spec.specs.declared.cbor.Ref.{Ref}
use Rattle.c2_spec.specs.declared.digest.Alg.{Alg}
use Rattle.c2_rules.specs.Chains.{LabelsDiffer, Reaches, any_below, entry_label, passes_some, place_of, reaches, redacts}
use Rattle.c2_rules.specs.CheckList.{chain_tests}
use Rattle.c2_rules.specs.Ingredients.{is_ingredient}
use Rattle.c2_rules.specs.Readings.{ReadBox, Reading, entries_in, value_in}
use Rattle.c2_rules.specs.Rules.{unjudged_tests}
use Rattle.c2_rules.specs.Seen.{Seen, Standing, earlier_standing, later, missing}
use Rattle.c2_rules.specs.Tests.{AllHold}

-- ---- what is reached

-- The manifest at `m` stands at one of these places, or is reached from one by child steps.
pub data IsReachedFrom (rs : List Reading) (roots : List ℕ) (m : ℕ) : Type 0 where
  is_root : Contains roots m → IsReachedFrom rs roots m
  is_below : (c : ℕ) → Contains roots c → Reaches rs c m → IsReachedFrom rs roots m

-- whether the manifest at `m` stands at one of these places, or is reached from one by child steps
abbrev pub is_reached_from : List Reading → List ℕ → ℕ → Bool
is_reached_from rs roots m = list_any (λ c. nat_eq c m || reaches rs c m) roots

-- where the labels of manifests differ, the test decides whether one stands at these places or is reached from them
abbrev pub RootsDecide : Type 0
RootsDecide = (rs : List Reading) (roots : List ℕ) (m : ℕ) → LabelsDiffer rs
    → (is_reached_from rs roots m ≡ true) ↔ IsReachedFrom rs roots m

-- ---- what is redacted and touched

-- This label is redacted in the manifest at `m`, where these manifests are reached: the claim of one of them, from which `m` is
-- reached, redacts the assertion with this label.
pub record IsRedactedBy (reached : ℕ → Bool) (rs : List Reading) (m : ℕ) (label : List ℕ) : Type 0 where
  pub place : ℕ
  pub is_reached : reached place ≡ true
  pub reaches_it : Reaches rs place m
  pub redactor : Reading
  pub at_place : slice_get rs place ≡ Some redactor
  pub target : Reading
  pub at_target : slice_get rs m ≡ Some target
  pub does : redacts (Some redactor) (Some target) label ≡ true

-- whether this label is redacted in the manifest at `m`, where these manifests are reached
abbrev pub redacted_by : (ℕ → Bool) → List Reading → ℕ → List ℕ → Bool
redacted_by reached rs m label =
    any_below
    (λ n. reached n && reaches rs n m && redacts (slice_get rs n) (slice_get rs m) label)
    (length rs)

-- where the labels of manifests differ, the test decides whether a label is redacted in one
abbrev pub RedactionsDecide : Type 0
RedactionsDecide = (reached : ℕ → Bool) (rs : List Reading) (m : ℕ) (label : List ℕ)
    → LabelsDiffer rs → (redacted_by reached rs m label ≡ true) ↔ IsRedactedBy reached rs m label

-- there is a manifest, and its claim lists a label that passes
abbrev pub lists_passing : (List ℕ → Bool) → Option Reading → Bool
lists_passing passes None = false
lists_passing passes (Some r) =
    list_any (λ (e : Ref). passes_some passes (entry_label r.manifest e)) (entries_in r)

-- the manifest at `m` is touched, where these manifests are reached
abbrev pub touched_by : (ℕ → Bool) → List Reading → ℕ → Bool
touched_by reached rs m = lists_passing (redacted_by reached rs m) (slice_get rs m)

-- ---- what the rules see

-- how the manifest at a place stands to the one at place `i`
abbrev pub place_standing_by : (ℕ → Bool) → List Reading → ℕ → Option ℕ → Standing
place_standing_by reached rs i None = missing
place_standing_by reached rs i (Some m) =
    if nat_lt m i then earlier_standing (touched_by reached rs m) (slice_get rs m) else later

-- how the manifest with this label stands to the one at place `i`
abbrev pub standing_by : (ℕ → Bool) → List Reading → ℕ → List ℕ → Standing
standing_by reached rs i label = place_standing_by reached rs i (place_of rs label)

-- what the rules see of the manifest `r` at place `i`
abbrev pub seen_by : (ℕ → Bool) → List Reading → ℕ → Reading → Seen
seen_by reached rs i r =
    record {
      own = r;
      is_active = false;
      is_redacted = redacted_by reached rs i;
      standing = standing_by reached rs i;
    }

-- all rules but the verdict's hold of each manifest that is reached
abbrev pub HoldBy : (Alg → List ℕ → List ℕ) → (ℕ → Bool) → List Reading → Type 0
HoldBy hash reached rs =
    (i : ℕ) (r : Reading) → reached i ≡ true → slice_get rs i ≡ Some r
    → AllHold (unjudged_tests hash (seen_by reached rs i r))

-- ---- a chain with its roots

-- a box of no ingredient is read as none
abbrev pub ReadsKinds : Reading → Type 0
ReadsKinds r =
    AllByRecursion (λ (b : ReadBox). is_ingredient b.boxed ≡ false → value_in b.ingredient ≡ None) r.boxes

-- in each of these manifests a box of no ingredient is read as none
abbrev pub AllReadKinds : List Reading → Type 0
AllReadKinds rs = (i : ℕ) (r : Reading) → slice_get rs i ≡ Some r → ReadsKinds r

-- A chain that a later manifest may name from these roots: its labels differ, the roots stand in it, and all rules but the verdicts
-- hold of what is reached from them.
pub record IsRooted (hash : Alg → List ℕ → List ℕ) (rs : List Reading) (roots : List ℕ) : Type 0 where
  pub differ : LabelsDiffer rs
  pub kinds : AllReadKinds rs
  pub within : AllByRecursion (λ c. c < length rs) roots
  pub holds : HoldBy hash (is_reached_from rs roots) rs

-- ---- the chain of one store

-- the root of the chain of one store: its last manifest; none where it has none
abbrev pub last_roots : List Reading → List ℕ
last_roots [] = []
last_roots (r ∷ rs) = length rs ∷ []

-- Where all rules but the verdicts hold of the manifests of a store, each as the store has it, its chain is rooted at the last one.
abbrev pub StoreIsRooted : Type 0
StoreIsRooted = (hash : Alg → List ℕ → List ℕ) (rs : List Reading)
    → LabelsDiffer rs → AllReadKinds rs → AllHold (chain_tests (unjudged_tests hash) rs)
    → IsRooted hash rs (last_roots rs)
