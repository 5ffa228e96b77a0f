-- The manifests of a box tree, told by its boxes and not by their indices. Both ways give one list, which is a law: so what is joined
-- to a tree, or taken out of it, can be seen box by box.
use Rattle.std.specs.Prelude.{◌≡◌, ℕ, Bool, is_some, List, [], ◌∷◌, map, filter, find, codes, Some, None, option_map}
use Rattle.std.specs.declared.option.Option.{Option}
use Rattle.c2_spec.specs.C2pa.Manifest.{Superbox, Manifest, has_type, is_named, cbor_contents, manifests_of}
use Rattle.c2_spec.specs.Jumbf.Boxes.{node, any_uuid, any_label, any_contents}
use Rattle.c2_spec.specs.Jumbf.Tree.{Tree, Trees, leaf, super, none, more}

-- boxes side by side, as a list
abbrev pub trees_list : Trees → List Tree
trees_list none = []
trees_list (more t ts) = t ∷ trees_list ts

-- a superbox
abbrev pub is_super : Tree → Bool
is_super t = is_some (any_uuid (node t))

-- the superboxes among boxes
abbrev pub supers_in : Trees → List Tree
supers_in boxes = filter is_super (trees_list boxes)

-- the superboxes in a box, behind its description
abbrev pub supers_of : Tree → List Tree
supers_of (leaf b) = []
supers_of (super wide d boxes) = supers_in boxes

-- the item of the first content box
abbrev pub first_item : Trees → Option (List ℕ)
first_item none = None
first_item (more t ts) = cbor_contents (node t)

-- the item of a box
abbrev pub item_of : Tree → Option (List ℕ)
item_of (leaf b) = None
item_of (super wide d boxes) = first_item boxes

-- a box, as the rules see it
abbrev pub superbox_of : Tree → Superbox
superbox_of t = record { label = any_label (node t); contents = any_contents (node t); item = item_of t }

-- the superboxes in a box, where there is one
abbrev pub supers_inside : Option Tree → List Tree
supers_inside None = []
supers_inside (Some t) = supers_of t

-- a claim box
abbrev pub is_claim_box : Tree → Bool
is_claim_box t = has_type (codes "c2cl") (node t)

-- a signature box
abbrev pub is_signature_box : Tree → Bool
is_signature_box t = is_named (codes "c2cs") (codes "c2pa.signature") (node t)

-- an assertion store
abbrev pub is_assertion_store : Tree → Bool
is_assertion_store t = is_named (codes "c2as") (codes "c2pa.assertions") (node t)

-- a manifest, as the rules see it
abbrev pub manifest_of : Tree → Manifest
manifest_of t = record {
  label = any_label (node t);
  contents = any_contents (node t);
  is_update = has_type (codes "c2um") (node t);
  claims = map superbox_of (filter is_claim_box (supers_of t));
  signature = option_map superbox_of (find is_signature_box (supers_of t));
  assertions = map superbox_of (supers_inside (find is_assertion_store (supers_of t)));
}

-- the manifests of a tree, box by box
abbrev pub tree_manifests : Tree → List Manifest
tree_manifests t = map manifest_of (supers_of t)

-- both ways of telling a tree's manifests give the same
abbrev pub ManifestsAreBoxes : Type 0
ManifestsAreBoxes = (t : Tree) → manifests_of t ≡ tree_manifests t
