-- For private clauses: what is found of the manifests of another store, one by one.
use Rattle.std.specs.Prelude.{◌≡◌, ◌<◌, ◌&&◌, ℕ, Bool, List, bytes_eq, length, map, slice_get}
use Rattle.std.specs.declared.option.Option.{Option}
use Rattle.std.specs.declared.option.Option.TheVariants.{None, Some}
use Rattle.c2_spec.specs.Jumbf.Tree.{AreDistinctLabels, Tree, none, tree_bytes, trees_bytes}
use Rattle.c2_label_index.specs.Places.{ArePlaces}
use Rattle.c2_label_index.specs.declared.places.Places.{Places}
use Rattle.c2_chain_spec.specs.Joined.{picked}
use Rattle.c2_new_file_spec.specs.Redacting.{redacted_box}
use Rattle.c2_collect_spec.specs.Sides.{ClashesAt, boxes_then, is_carried_box}
use Rattle.c2_collect.specs.Marked.{MarkedStore, box_labels, flag_at, is_marked, manifests_in}

-- The labels of these manifests all differ, and the place of each is kept.
pub record FindsLabels (manifests : List Tree) (places : Places) : Type 0 where
  pub distinct : AreDistinctLabels (box_labels manifests)
  pub kept : ArePlaces (box_labels manifests) places

-- the stores clash at the manifest at place `i` of the other
abbrev pub StoresClash : MarkedStore → MarkedStore → ℕ → Type 0
StoresClash old other i = ClashesAt (manifests_in old) (is_marked old) (manifests_in other) (is_marked other) i

-- the manifest at place `i` of the other store is carried
abbrev pub is_carried_over : MarkedStore → MarkedStore → ℕ → Tree → Bool
is_carried_over old other i t = is_carried_box (manifests_in old) (is_marked other) i t

-- the answer says whether the manifest at place `p` of the old store is reached there, and has the bytes of the one at place `i` of the
-- other
abbrev pub IsShared : MarkedStore → MarkedStore → ℕ → ℕ → Bool → Type 0
IsShared old other p i answer =
    (ours theirs : Tree) → slice_get (manifests_in old) p ≡ Some ours → slice_get (manifests_in other) i ≡ Some theirs
    → answer ≡ (is_marked old p && bytes_eq (tree_bytes ours) (tree_bytes theirs))

-- What is found of the manifest at place `i` of the other store: that it is carried or isn't; or that the stores clash at it.
abbrev pub IsFound : MarkedStore → MarkedStore → ℕ → Option Bool → Type 0
IsFound old other i None = StoresClash old other i
IsFound old other i (Some flag) =
    ((t : Tree) → slice_get (manifests_in other) i ≡ Some t → flag ≡ is_carried_over old other i t)
    × (StoresClash old other i → ⊥)

-- The flags say of the first `n` manifests of the other store which are carried, and the stores clash at none of them.
pub record AreCarried (old other : MarkedStore) (flags : List Bool) (n : ℕ) : Type 0 where
  pub count : length flags ≡ n
  pub each : (i : ℕ) (t : Tree) → i < n → slice_get (manifests_in other) i ≡ Some t
      → flag_at flags i ≡ is_carried_over old other i t
  pub apart : (i : ℕ) → i < n → StoresClash old other i → ⊥

-- the manifests that the flags want among these, of which the first has place `k`
abbrev pub wanted_in : List Bool → ℕ → List Tree → List Tree
wanted_in flags k ts = picked (λ i t. flag_at flags i) k ts

-- the bytes of the manifests that the flags want among these, of which the first has place `k`
abbrev pub wanted_from : List Bool → ℕ → List Tree → List ℕ
wanted_from flags k ts = trees_bytes (boxes_then none (wanted_in flags k ts))

-- the bytes of those of all these that they want
abbrev pub wanted_bytes : List Bool → List Tree → List ℕ
wanted_bytes flags ts = wanted_from flags 0 ts

-- the manifests of a store, each less what redactions take out of it
abbrev pub less_in : List (List ℕ) → MarkedStore → List Tree
less_in redacts s = map (redacted_box redacts) (manifests_in s)
