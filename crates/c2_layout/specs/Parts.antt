-- The parts of a new store, as they are made one after the other.
use Rattle.std.specs.Prelude.{◌≡◌, ℕ, ◌+◌, ◌≤◌, List, ◌++◌, Some, codes, length, map}
use Rattle.c2_base.specs.declared.limits.TheConstants.{MAX_STORE_LEN}
use Rattle.c2_base.specs.declared.values.Range.{Range}
use Rattle.c2_spec.specs.C2pa.Manifest.{type_uuid}
use Rattle.c2_spec.specs.C2pa.Uri.{signature, whole}
use Rattle.c2_spec.specs.Digest.{alg_name}
use Rattle.c2_spec.specs.Jumbf.Tree.{tree_bytes, trees_bytes}
use Rattle.c2_spec.specs.Jumbf.Writing.{IsWrittenLabel, fresh_super}
use Rattle.c2_spec.specs.declared.assertion.DataHash.{DataHash}
use Rattle.c2_spec.specs.declared.assertion.Ingredient.{Ingredient}
use Rattle.c2_spec.specs.declared.assertion.Relationship.{Relationship}
use Rattle.c2_spec.specs.declared.digest.Alg.{Alg}
use Rattle.c2_assertion.specs.Written.{one_exclusion}
use Rattle.c2_definition.specs.declared.types.NewAssertion.{NewAssertion}
use Rattle.c2_definition.specs.declared.types.Definition.{Definition}
use Rattle.c2_new_file_spec.specs.Built.{HasDigestLen, bound_len}
use Rattle.c2_new_file_spec.specs.FreshBoxes.{item_box}
use Rattle.c2_new_file_spec.specs.Store.{Content, NamedManifest, assertion_box, assertion_boxes, ingredient_assertion, new_alg, new_assertions, new_claim, target_ref}
use Rattle.c2_new_file_spec.specs.Written.{AreIngredients}
use Rattle.c2_layout.specs.declared.carried.Carried.{Carried}
use Rattle.c2_layout.specs.declared.carried.ManifestRefs.{ManifestRefs}
use Rattle.c2_layout.specs.declared.parts.NewParts.{NewParts}

-- ---- what goes into a new store

-- references to this manifest, where `hash` gives the digest of a list
pub record AreRefs (hash : List ℕ → List ℕ) (p : NamedManifest) (refs : ManifestRefs) : Type 0 where
  pub label : refs.label ≡ p.label
  pub contents : refs.contents ≡ hash p.contents
  pub signed : refs.signed ≡ hash p.signed

-- This goes into a new store of a definition and of what is carried of older stores: the boxes, and ingredients such as a manifest may
-- have, whose assertions were made by a hash that gives digests of the definition's algorithm.
pub record IsContent (hash : List ℕ → List ℕ) (d : Definition) (k : Carried) (c : Content) : Type 0 where
  pub definition : c.definition ≡ d
  pub boxes : k.boxes ≡ trees_bytes c.carried
  pub assertions : k.ingredients.items ≡ map (ingredient_assertion hash) c.ingredients
  pub ingredients : AreIngredients c.ingredients
  pub digests : HasDigestLen (new_alg d) hash

-- a new store of these with this binding isn't too large with what the definition reserves for its message
pub record CanBeBound (hash : List ℕ → List ℕ) (d : Definition) (k : Carried) (binding : NewAssertion) : Type 0 where
  pub content : Content
  pub is : IsContent hash d k content
  pub small : bound_len content binding d.reserve ≤ MAX_STORE_LEN

-- ---- references to a manifest

-- for private clauses: a digest that is told stands for itself
abbrev pub told : List ℕ → List ℕ
told digest = digest

-- for private clauses: what is written of the ingredient that the manifest of these references is
abbrev pub ingredient_by : Relationship → ManifestRefs → Ingredient
ingredient_by how refs = record {
  relationship = how;
  manifest = Some (target_ref told refs.label whole refs.contents);
  signature = Some (target_ref told refs.label signature refs.signed);
}

-- ---- the binding

-- for private clauses: what is written of the binding to what a file has outside this range, by this digest of it
abbrev pub binding_hash : Alg → Range → List ℕ → DataHash
binding_hash alg range digest = one_exclusion (Some (alg_name alg)) digest range

-- ---- the parts

-- an assertion whose box can be written: its label may be, and the box isn't too large
pub record CanBeBoxed (a : NewAssertion) : Type 0 where
  pub label : IsWrittenLabel a.label
  pub small : length (tree_bytes (assertion_box a)) ≤ MAX_STORE_LEN

-- for private clauses: what stands in the box of a manifest behind its description, where the boxes of its assertions have these bytes
abbrev pub contents_bytes : List ℕ → List ℕ → List ℕ → List ℕ
contents_bytes boxes claim message =
    fresh_super (type_uuid (codes "c2as")) (codes "c2pa.assertions") boxes
    ++ (tree_bytes (item_box (codes "c2cl") (codes "c2pa.claim.v2") claim) ++ tree_bytes (item_box (codes "c2cs") (codes "c2pa.signature") message))

-- how many bytes a manifest has: 194 beside its label, the boxes of its assertions, its claim and its message. They are the headers and
-- descriptions of the manifest (34), of its assertion store (49), and of the boxes of its claim and of its message with the headers of
-- their content boxes (55 and 56)
abbrev pub manifest_size : List ℕ → List ℕ → List ℕ → List ℕ → ℕ
manifest_size label boxes claim message = 194 + length label + length boxes + length claim + length message

-- the parts of the new store that don't depend on its message, where `hash` gives the digest of a list
pub record AreParts (hash : List ℕ → List ℕ) (c : Content) (binding : NewAssertion) (p : NewParts) : Type 0 where
  pub boxes : p.boxes ≡ trees_bytes (assertion_boxes (new_assertions hash c binding))
  pub claim : p.claim ≡ new_claim hash c binding

-- how many bytes a store with this label and these parts has beside what is carried, with so many for its message: 38 are its own header
-- and description
abbrev pub parts_size : List ℕ → NewParts → ℕ → ℕ
parts_size label p reserve = 232 + length label + length p.boxes + length p.claim + reserve
