-- What a new store is read as: one legal tree, which is a store, with the manifests that are carried and then the new one.
use Rattle.std.specs.Prelude.{◌≡◌, ◌≢◌, ◌⊎◌, ℕ, ◌<◌, ◌≤◌, ◌^◌, ⊤, true, false, ◌∷◌, [], List, ◌++◌, filter, length, map, codes, Some, None, IfSome}
use Rattle.std.specs.declared.option.Option.{Option}
use Rattle.std.specs.List.{AllByRecursion}
use Rattle.std.specs.Str.{IsUtf8}
use Rattle.c2_base.specs.declared.limits.TheConstants.{MAX_STORE_LEN, MAX_MANIFESTS}
use Rattle.c2_spec.specs.C2pa.Assertion.{kind_of}
use Rattle.c2_spec.specs.C2pa.Manifest.{Superbox, Manifest, is_manifest, is_manifest_label, store_refusal, manifests_of}
use Rattle.c2_spec.specs.Jumbf.Boxes.{node, any_label}
use Rattle.c2_spec.specs.Jumbf.Tree.{Tree, Trees, tree_bytes, tree_labels, SpellsTree, IsLabel, AreLegalTrees, AreDistinctLabels, IsNewLabel}
use Rattle.c2_rules.specs.Rules.{is_binding, is_parent_word}
use Rattle.c2_definition.specs.DefinitionFile.{IsWellFormed}
use Rattle.c2_definition.specs.declared.types.Definition.{Definition}
use Rattle.c2_definition.specs.declared.types.NewAssertion.{NewAssertion}
use Rattle.c2_definition.specs.declared.types.Payload.{Payload}
use Rattle.c2_definition.specs.declared.types.Payload.TheVariants as payload
use Rattle.c2_new_file_spec.specs.FreshBoxes.{contents_of, item_box}
use Rattle.c2_new_file_spec.specs.Manifests.{supers_in, manifest_of}
use Rattle.c2_new_file_spec.specs.Store.{Content, NewIngredient, assertion_box, manifest_box, new_assertions, new_claim, new_store}

-- ---- what is asked of what is written

-- a text as a program holds it
pub record IsText (t : List ℕ) : Type 0 where
  pub utf8 : IsUtf8 t
  pub short : length t < 2 ^ 64

-- the texts of a definition that a new manifest has
pub record HasTexts (d : Definition) : Type 0 where
  pub label : IsText d.label
  pub instance : IsText d.instance_id
  pub generator : IsText d.generator
  pub title : IfSome d.title IsText
  pub labels : AllByRecursion (λ (a : NewAssertion). IsText a.label) d.assertions
  pub redact : AllByRecursion IsText d.redact

-- a definition that can be written: one that was read of a file
pub record CanBeWritten (d : Definition) : Type 0 where
  pub formed : IsWellFormed d
  pub texts : HasTexts d

-- a box that may stand in a store: a manifest with a label that can be named
pub record IsStoreBox (t : Tree) : Type 0 where
  pub manifest : is_manifest (node t) ≡ true
  pub label : is_manifest_label (any_label (node t)) ≡ true

-- boxes that can be carried beside a manifest with this label: they are legal in a store, have other labels, and leave room for it
pub record CanBeCarried (label : List ℕ) (boxes : Trees) : Type 0 where
  pub legal : AreLegalTrees 2 boxes
  pub distinct : AreDistinctLabels (tree_labels boxes)
  pub new : IsNewLabel (Some label) (tree_labels boxes)
  pub manifests : AllByRecursion IsStoreBox (supers_in boxes)
  pub few : length (supers_in boxes) < MAX_MANIFESTS

-- a binding that a manifest can have
pub record IsNewBinding (binding : NewAssertion) : Type 0 where
  pub label : IsLabel binding.label
  pub kind : is_binding (kind_of binding.label) ≡ true

-- the label of an ingredient assertion: of the first in a manifest, and of the second ("Multiple instances" of assertions)
abbrev pub IsIngredientLabel : List ℕ → Type 0
IsIngredientLabel label = (label ≡ codes "c2pa.ingredient.v3") ⊎ (label ≡ codes "c2pa.ingredient.v3__1")

-- each has another label
abbrev pub LabelsApart : List NewIngredient → Type 0
LabelsApart [] = ⊤
LabelsApart (g ∷ gs) = AllByRecursion (λ (h : NewIngredient). h.label ≢ g.label) gs × LabelsApart gs

-- Ingredients that a manifest may have: under such labels, that differ, and at most one of them the parent.
pub record AreIngredients (gs : List NewIngredient) : Type 0 where
  pub labels : AllByRecursion (λ (g : NewIngredient). IsIngredientLabel g.label) gs
  pub apart : LabelsApart gs
  pub parents : length (filter (λ (g : NewIngredient). is_parent_word g.relationship) gs) ≤ 1

-- ---- what is read

-- the item of an assertion
abbrev pub written_item : Payload → List ℕ → Option (List ℕ)
written_item payload.Cbor bytes = Some bytes
written_item payload.Json bytes = None

-- the box of an assertion
abbrev pub written_assertion : NewAssertion → Superbox
written_assertion a = record { label = Some a.label; contents = contents_of (assertion_box a); item = written_item a.kind a.bytes }

-- the box of an item
abbrev pub written_box : List ℕ → List ℕ → List ℕ → Superbox
written_box name label bytes = record { label = Some label; contents = contents_of (item_box name label bytes); item = Some bytes }

-- a manifest of these assertions, this claim and this message, as the rules see it
abbrev pub written_manifest : List ℕ → List NewAssertion → List ℕ → List ℕ → Manifest
written_manifest label assertions claim message = record {
  label = Some label;
  contents = contents_of (manifest_box label assertions claim message);
  is_update = false;
  claims = written_box (codes "c2cl") (codes "c2pa.claim.v2") claim ∷ [];
  signature = Some (written_box (codes "c2cs") (codes "c2pa.signature") message);
  assertions = map written_assertion assertions;
}

-- the new manifest, as the rules see it
abbrev pub new_written : (List ℕ → List ℕ) → Content → NewAssertion → List ℕ → Manifest
new_written hash c binding message =
    written_manifest c.definition.label (new_assertions hash c binding) (new_claim hash c binding) message

-- A tree's bytes spell it, it is a store, and its manifests are those that are carried and then this one.
pub record IsStoreEndingWith (carried : Trees) (last : Manifest) (t : Tree) : Type 0 where
  pub spelled : SpellsTree (tree_bytes t) t
  pub store : store_refusal t ≡ None
  pub manifests : manifests_of t ≡ map manifest_of (supers_in carried) ++ last ∷ []

-- A new store that isn't too large is read: as the manifests that are carried, and the new one.
abbrev pub NewStoreIsRead : Type 0
NewStoreIsRead = (hash : List ℕ → List ℕ) (c : Content) (binding : NewAssertion) (message : List ℕ)
    → CanBeWritten c.definition → CanBeCarried c.definition.label c.carried → AreIngredients c.ingredients → IsNewBinding binding
    → length (tree_bytes (new_store hash c binding message)) ≤ MAX_STORE_LEN
    → IsStoreEndingWith c.carried (new_written hash c binding message) (new_store hash c binding message)
