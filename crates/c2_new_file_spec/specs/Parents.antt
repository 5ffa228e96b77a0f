-- The parent of a new manifest: the last manifest of the boxes that are carried, as it stands in the new store (C2PA Technical
-- Specification 2.x, "Ingredient"). And what goes into a new store over an older one.
use Rattle.std.specs.Prelude.{◌≡◌, ◌-◌, List, [], ◌∷◌, length, find, slice_get}
use Rattle.std.specs.declared.option.Option.TheVariants.{Some}
use Rattle.c2_spec.specs.Jumbf.Boxes.{node, any_label}
use Rattle.c2_spec.specs.Jumbf.Tree.{Tree}
use Rattle.c2_definition.specs.declared.types.Definition.{Definition}
use Rattle.c2_new_file_spec.specs.FreshBoxes.{contents_of}
use Rattle.c2_new_file_spec.specs.Manifests.{is_signature_box, supers_in, supers_of}
use Rattle.c2_new_file_spec.specs.Store.{Content, NamedManifest, parent_ingredient}
use Rattle.c2_new_file_spec.specs.Redacting.{boxes_in, redacted_boxes}

-- The parent is the last of these manifests: its label, its contents, and those of its signature box.
pub record IsParentOf (p : NamedManifest) (manifests : List Tree) : Type 0 where
  pub active : Tree
  pub is_active : slice_get manifests (length manifests - 1) ≡ Some active
  pub label : any_label (node active) ≡ Some p.label
  pub contents : contents_of active ≡ p.contents
  pub signature : Tree
  pub is_signature : find is_signature_box (supers_of active) ≡ Some signature
  pub signed : contents_of signature ≡ p.signed

-- A new store over an older one: its boxes are carried less what the definition redacts, and its one ingredient is the parent, which is
-- the last manifest of them.
pub record IsContentOver (d : Definition) (old : Tree) (c : Content) : Type 0 where
  pub definition : c.definition ≡ d
  pub carried : c.carried ≡ redacted_boxes d.redact (boxes_in old)
  pub parent : NamedManifest
  pub ingredients : c.ingredients ≡ parent_ingredient parent ∷ []
  pub is_parent : IsParentOf parent (supers_in c.carried)
