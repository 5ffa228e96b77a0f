-- The manifests of two stores joined: those of the one, and behind them those of the other that are reached there and whose labels the
-- one doesn't have. None of them is the active one then; a later manifest has ingredients that name the active manifests of both (C2PA
-- Technical Specification 2.x, "Ingredient").
use Rattle.std.specs.Prelude.{◌≡◌, ◌<◌, ◌+◌, ℕ, Bool, true, not, ◌&&◌, List, [], ◌∷◌, ◌++◌, Option, Some, bytes_eq, length, slice_get, filter_map, option_and_then, if◌then◌else◌}
use Rattle.std.specs.List.{list_any}
use Rattle.c2_spec.specs.declared.digest.Alg.{Alg}
use Rattle.c2_rules.specs.Chains.{label_in, place_of}
use Rattle.c2_rules.specs.Readings.{Reading}
use Rattle.c2_chain_spec.specs.Rooted.{IsRooted, is_reached_from}

-- ---- what is carried

-- the members of a list that are picked by their places; the first has place `k`
abbrev pub picked : {X : Type 0} → (ℕ → X → Bool) → ℕ → List X → List X
picked picks k [] = []
picked picks k (x ∷ xs) = if picks k x then x ∷ picked picks (k + 1) xs else picked picks (k + 1) xs

-- one of these manifests has this label
abbrev pub has_manifest : List Reading → List ℕ → Bool
has_manifest rs label = list_any (λ (r : Reading). bytes_eq (label_in r) label) rs

-- the manifest at place `i` of the other store is carried
abbrev pub is_carried : List Reading → (ℕ → Bool) → ℕ → Reading → Bool
is_carried old reached i r = reached i && not (has_manifest old (label_in r))

-- the manifests of the old store, and those of the other that are carried, where these are reached in it
abbrev pub joined : List Reading → (ℕ → Bool) → List Reading → List Reading
joined old reached other = old ++ picked (is_carried old reached) 0 other

-- Each manifest that is reached in the other store and whose label the old store has is the same there, and reached there.
abbrev pub NoneClashes : List Reading → (ℕ → Bool) → List Reading → (ℕ → Bool) → Type 0
NoneClashes old is_reached other reached =
    (i p : ℕ) (r s : Reading) → reached i ≡ true → slice_get other i ≡ Some r → slice_get old p ≡ Some s
    → label_in r ≡ label_in s → (is_reached p ≡ true) × (s ≡ r)

-- ---- roots

-- the place in a chain of the manifest that stands at place `i` of the other store
abbrev pub place_in : List Reading → List Reading → ℕ → Option ℕ
place_in all other i =
    option_and_then (λ (r : Reading). place_of all (label_in r)) (slice_get other i)

-- the roots of the joined chain: those of the old store, and those of the other at their new places
abbrev pub joined_roots : List ℕ → List Reading → List ℕ → List Reading → List ℕ
joined_roots roots other others all = roots ++ filter_map (place_in all other) others

-- ---- the law

-- What is reached in a joined chain: of the old store what was reached there, and all that is carried.
pub record IsReachedInJoin (old other all : List Reading) (before others after : ℕ → Bool) : Type 0 where
  pub front : (p : ℕ) → p < length old → after p ≡ before p
  pub carried : (i p : ℕ) (r : Reading) → others i ≡ true → slice_get other i ≡ Some r
      → slice_get all p ≡ Some r → after p ≡ true

-- Two such chains that don't clash join to one.
pub record JoinIs (hash : Alg → List ℕ → List ℕ) (old : List Reading) (roots : List ℕ) (other : List Reading) (others : List ℕ) (all : List Reading) : Type 0 where
  pub rooted : IsRooted hash all (joined_roots roots other others all)
  pub reached : IsReachedInJoin old other all (is_reached_from old roots) (is_reached_from other others)
      (is_reached_from all (joined_roots roots other others all))

-- each two rooted chains that don't clash join to one
abbrev pub ChainsJoin : Type 0
ChainsJoin = (hash : Alg → List ℕ → List ℕ) (old other : List Reading) (roots others : List ℕ)
    → IsRooted hash old roots → IsRooted hash other others
    → NoneClashes old (is_reached_from old roots) other (is_reached_from other others)
    → JoinIs hash old roots other others (joined old (is_reached_from other others) other)
