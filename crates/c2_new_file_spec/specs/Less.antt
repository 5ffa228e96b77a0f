-- What the manifests of an older store are read as once redactions took boxes out of them: the same, less those boxes. And what is
-- asked of redactions that may be made.
use Rattle.std.specs.Prelude.{◌≡◌, ℕ, Bool, true, false, List, [], map, find, slice_get, unwrap_or}
use Rattle.std.specs.declared.option.Option.TheVariants.{Some}
use Rattle.std.specs.List.{AllByRecursion, AllZip}
use Rattle.c2_spec.specs.C2pa.Manifest.{Superbox}
use Rattle.c2_spec.specs.Jumbf.Boxes.{any_label, node}
use Rattle.c2_spec.specs.Jumbf.Tree.{Tree, Trees, tree_label, tree_labels, AreLegalTrees}
use Rattle.c2_rules.specs.Chains.{child_of, is_reached, label_in, passes_some}
use Rattle.c2_rules.specs.Ingredients.{is_ingredient}
use Rattle.c2_rules.specs.Readings.{AreReadings, ReadBox, Reading, entries_in}
use Rattle.c2_rules.specs.Rules.{lists_label}
use Rattle.c2_chain_spec.specs.Older.{has_signature, is_kept, thinned}
use Rattle.c2_new_file_spec.specs.Manifests.{is_assertion_store, manifest_of, supers_in, supers_inside, supers_of}
use Rattle.c2_new_file_spec.specs.Written.{IsStoreBox}
use Rattle.c2_new_file_spec.specs.Redacting.{redacted_box, redacted_boxes, takes_out}

-- ---- what is read

-- none of these boxes is taken out of this manifest
abbrev pub KeepsAll : List (List ℕ) → Reading → Type 0
KeepsAll redacts r =
    AllByRecursion (λ (b : ReadBox). is_kept (takes_out redacts (label_in r)) b ≡ true) r.boxes

-- A manifest less the boxes that redactions take out of it; where they take none, its contents stay.
pub record IsLess (redacts : List (List ℕ)) (r s : Reading) : Type 0 where
  pub contents : List ℕ
  pub assertions : List Superbox
  pub is : s ≡ thinned (takes_out redacts (label_in r)) contents assertions r
  pub same : KeepsAll redacts r → contents ≡ r.manifest.contents

-- manifests less those boxes, one by one
abbrev pub AreLess : List (List ℕ) → List Reading → List Reading → Type 0
AreLess redacts rs ss = AllZip (IsLess redacts) rs ss

-- The boxes of a store were read as `rs`. Less what these redactions take out they are legal, have the same labels, and are read so.
pub record IsReadLess (redacts : List (List ℕ)) (boxes : Trees) (rs : List Reading) : Type 0 where
  pub ss : List Reading
  pub less : AreLess redacts rs ss
  pub reads : AreReadings (map manifest_of (supers_in (redacted_boxes redacts boxes))) ss
  pub legal : AreLegalTrees 2 (redacted_boxes redacts boxes)
  pub labels : tree_labels (redacted_boxes redacts boxes) ≡ tree_labels boxes
  pub stores : AllByRecursion IsStoreBox (supers_in (redacted_boxes redacts boxes))

-- The boxes of each store are read less what redactions take out of them.
abbrev pub RedactedStoreIsRead : Type 0
RedactedStoreIsRead = (redacts : List (List ℕ)) (boxes : Trees) (rs : List Reading)
    → AreLegalTrees 2 boxes → AllByRecursion IsStoreBox (supers_in boxes)
    → AreReadings (map manifest_of (supers_in boxes)) rs → IsReadLess redacts boxes rs

-- these redactions take no assertion box out of this manifest
abbrev pub LosesNone : List (List ℕ) → Tree → Type 0
LosesNone redacts t =
    AllByRecursion (λ (s : Tree). passes_some (takes_out redacts (unwrap_or (tree_label t) [])) (any_label (node s)) ≡ false)
    (supers_inside (find is_assertion_store (supers_of t)))

-- A manifest that loses none stays, byte for byte.
abbrev pub WholeStays : Type 0
WholeStays = (redacts : List (List ℕ)) (t : Tree) → LosesNone redacts t → redacted_box redacts t ≡ t

-- Without redactions all boxes are carried as they stand.
abbrev pub AllAreCarried : Type 0
AllAreCarried = (boxes : Trees) → redacted_boxes [] boxes ≡ boxes

-- ---- redactions that may be made

-- each box that these redactions take out of this manifest is none of an ingredient
abbrev pub TakesNoIngredient : List (List ℕ) → Reading → Type 0
TakesNoIngredient redacts r =
    AllByRecursion (λ (b : ReadBox). is_kept (takes_out redacts (label_in r)) b ≡ false → is_ingredient b.boxed ≡ false) r.boxes

-- this box of the manifest at place `i` names the signature of its child, where something is taken out of the child
abbrev pub SignsTaken : List (List ℕ) → List Reading → ℕ → ReadBox → Type 0
SignsTaken redacts rs i b =
    (m : ℕ) (child : Reading) (label : List ℕ) → child_of rs i b ≡ Some m → slice_get rs m ≡ Some child
    → takes_out redacts (label_in child) label ≡ true → has_signature b ≡ true

-- Redactions that may be made in a chain of which these manifests are reached: they take out no ingredient; what they take out is
-- listed by the claim of a reached manifest; and each ingredient of a reached manifest that names that one names its signature.
pub record CanRedactBy (is_in : ℕ → Bool) (redacts : List (List ℕ)) (rs : List Reading) : Type 0 where
  pub kinds : (i : ℕ) (r : Reading) → slice_get rs i ≡ Some r → TakesNoIngredient redacts r
  pub reached : (i : ℕ) (r : Reading) (label : List ℕ) → slice_get rs i ≡ Some r
      → takes_out redacts (label_in r) label ≡ true → is_in i ≡ true
  pub listed : (i : ℕ) (r : Reading) (label : List ℕ) → slice_get rs i ≡ Some r
      → takes_out redacts (label_in r) label ≡ true → lists_label r.manifest (entries_in r) label ≡ true
  pub signed : (i : ℕ) (r : Reading) → is_in i ≡ true → slice_get rs i ≡ Some r
      → AllByRecursion (SignsTaken redacts rs i) r.boxes

-- redactions that may be made in a store that was read so, where its last manifest is the active one
abbrev pub CanRedact : List (List ℕ) → List Reading → Type 0
CanRedact redacts rs = CanRedactBy (is_reached rs) redacts rs
