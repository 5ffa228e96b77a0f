-- A store with a flag for each of its manifests that says whether it is reached.
use Rattle.std.specs.Prelude.{◌≡◌, ℕ, Bool, false, List, Option, length, map, get_or}
use Rattle.c2_spec.specs.C2pa.Manifest.{IsStoreOf}
use Rattle.c2_spec.specs.Jumbf.Tree.{Tree, Trees, tree_bytes, tree_label}
use Rattle.c2_spec.specs.declared.store.ManifestBoxes.{ManifestBoxes}
use Rattle.c2_new_file_spec.specs.Manifests.{supers_in}
use Rattle.c2_new_file_spec.specs.Redacting.{boxes_in}

-- The boxes of the store's root behind its description, and the flags.
pub record MarkedStore : Type 0 where
  pub boxes : Trees
  pub reached : List Bool

-- the boxes of a store's tree, with flags
abbrev pub marked : Tree → List Bool → MarkedStore
marked t flags = record { boxes = boxes_in t; reached = flags }

-- a flag of a list; none behind its end
abbrev pub flag_at : List Bool → ℕ → Bool
flag_at flags i = get_or flags i false

-- the manifests of a marked store
abbrev pub manifests_in : MarkedStore → List Tree
manifests_in s = supers_in s.boxes

-- the manifest at a place is reached
abbrev pub is_marked : MarkedStore → ℕ → Bool
is_marked s = flag_at s.reached

-- The store is that of the tree, and there is a flag for each manifest.
pub record IsSide (t : Tree) (s : List ManifestBoxes) (reached : List Bool) : Type 0 where
  pub same : IsStoreOf t s
  pub count : length reached ≡ length s

-- the labels of manifests, in order
abbrev pub box_labels : List Tree → List (Option (List ℕ))
box_labels ts = map tree_label ts

-- the bytes of each, in order
abbrev pub box_bytes : List Tree → List (List ℕ)
box_bytes ts = map tree_bytes ts
