-- For private clauses: the boxes in a box, met one after the other, and a box whose boxes are others.
use Rattle.std.specs.Prelude.{◌≡◌, ℕ, ◌+◌, Bool, List, [], ◌++◌, length, drop, unwrap_or, codes, if◌then◌else◌}
use Rattle.c2_spec.specs.Jumbf.Tree.{Tree, Trees, leaf, super, none, more, description_bytes, description_payload, tree_bytes}
use Rattle.c2_spec.specs.Jumbf.Boxes.{AnyBox, IndexedBox, node, described, trees_count, boxes_from_all, boxes_of, any_label}
use Rattle.c2_spec.specs.C2pa.Manifest.{is_named}
use Rattle.c2_rules.specs.Chains.{passes_some}
use Rattle.c2_new_file_spec.specs.Manifests.{is_assertion_store}
use Rattle.c2_new_file_spec.specs.Redacting.{takes_out, without, thin_boxes, boxes_in}

-- the boxes of a box behind its description
abbrev pub any_boxes : AnyBox → Trees
any_boxes (node t) = boxes_in t
any_boxes (described d) = none

-- what stands before them, behind the box's own header
abbrev pub front_bytes : AnyBox → List ℕ
front_bytes (node (leaf b)) = b.payload
front_bytes (node (super wide d boxes)) = description_bytes d
front_bytes (described d) = description_payload d

-- a box with its boxes changed
abbrev pub changed : (Trees → Trees) → AnyBox → AnyBox
changed change (node (leaf b)) = node (leaf b)
changed change (node (super wide d boxes)) = node (super wide d (change boxes))
changed change (described d) = described d

-- the label of a box, or an empty one where it has none
abbrev pub name_in : AnyBox → List ℕ
name_in b = unwrap_or (any_label b) []

-- what redactions take out of the manifest that this box is
abbrev pub taken_in : List (List ℕ) → AnyBox → List ℕ → Bool
taken_in redacts b = takes_out redacts (name_in b)

-- a manifest less what redactions name of it
abbrev pub redacted_any : List (List ℕ) → AnyBox → AnyBox
redacted_any redacts b = changed (thin_boxes (taken_in redacts b)) b

-- a box that is an assertion store
abbrev pub is_any_store : AnyBox → Bool
is_any_store b = is_named (codes "c2as") (codes "c2pa.assertions") b

-- a box in a manifest, where the assertion store was met before or wasn't: the first assertion store is less what is taken out
abbrev pub child_of : Bool → (List ℕ → Bool) → AnyBox → AnyBox
child_of met out b = if met then b else if is_any_store b then changed (without out) b else b

-- how many bytes those of these boxes have whose labels are taken out
abbrev pub lost : (List ℕ → Bool) → Trees → ℕ
lost out none = 0
lost out (more t ts) =
    (if passes_some out (any_label (node t)) then length (tree_bytes t) else 0) + lost out ts

-- how many bytes those boxes of the first assertion store among these have whose labels are taken out
abbrev pub lost_in_store : (List ℕ → Bool) → Trees → ℕ
lost_in_store out none = 0
lost_in_store out (more t ts) =
    if is_assertion_store t then lost out (boxes_in t) else lost_in_store out ts

-- the boxes of a manifest from some box on, where its assertion store was met or wasn't
abbrev pub thin_rest : Bool → (List ℕ → Bool) → Trees → Trees
thin_rest met out boxes = if met then boxes else thin_boxes out boxes

-- These boxes stand side by side in a tree, from one index to another.
pub record AreFrom (t : Tree) (at end : ℕ) (boxes : Trees) : Type 0 where
  pub place : ℕ
  pub depth : ℕ
  pub others : List IndexedBox
  pub stand : drop at (boxes_of t) ≡ boxes_from_all place depth at boxes ++ others
  pub last : end ≡ at + trees_count boxes

-- The boxes that are still to come, of which this holds.
pub record ToCome (t : Tree) (at end : ℕ) (Holds : Trees → Type 0) : Type 0 where
  pub boxes : Trees
  pub are : AreFrom t at end boxes
  pub holds : Holds boxes
