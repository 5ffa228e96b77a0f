-- The store that is written, as a box tree: the manifests that are carried of older stores, and a new one (C2PA Technical
-- Specification 2.x, "Manifest store" and "Manifests"). Its bytes are those that spell the tree. So a box that is carried keeps its
-- bytes, and a box around others has the length of what it holds.
use Rattle.std.specs.Prelude.{ℕ, List, [], ◌∷◌, ◌++◌, map, codes, Some, None}
use Rattle.c2_base.specs.declared.values.Range.{Range}
use Rattle.c2_spec.specs.C2pa.Uri.{PlainTarget, whole, assertion, signature, uri_text}
use Rattle.c2_spec.specs.Cbor.Deterministic.{deterministic}
use Rattle.c2_spec.specs.Digest.{alg_name}
use Rattle.c2_spec.specs.Jumbf.Tree.{Tree, Trees, none, more}
use Rattle.c2_spec.specs.declared.assertion.Ingredient.{Ingredient}
use Rattle.c2_spec.specs.declared.assertion.Relationship.{Relationship}
use Rattle.c2_spec.specs.declared.assertion.Relationship.TheVariants.{ParentOf}
use Rattle.c2_spec.specs.declared.cbor.Ref.{Ref}
use Rattle.c2_spec.specs.declared.digest.Alg.{Alg}
use Rattle.c2_assertion.specs.Written.{data_hash_item, ingredient_item, one_exclusion}
use Rattle.c2_claim.specs.Written.{claim_item}
use Rattle.c2_claim.specs.declared.writing.ClaimParts.{ClaimParts}
use Rattle.c2_definition.specs.declared.types.Definition.{Definition}
use Rattle.c2_definition.specs.declared.types.NewAssertion.{NewAssertion}
use Rattle.c2_definition.specs.declared.types.Payload.{Payload}
use Rattle.c2_definition.specs.declared.types.Payload.TheVariants as payload
use Rattle.c2_new_file_spec.specs.FreshBoxes.{fresh_leaf, fresh_box, item_box, contents_of, store_box}

-- ---- assertions

-- the type of an assertion's box and of its content box
abbrev pub payload_name : Payload → List ℕ
payload_name payload.Cbor = codes "cbor"
payload_name payload.Json = codes "json"

-- the box of an assertion
abbrev pub assertion_box : NewAssertion → Tree
assertion_box a = fresh_box (payload_name a.kind) a.label (more (fresh_leaf (payload_name a.kind) a.bytes) none)

-- the boxes of these assertions, in order
abbrev pub assertion_boxes : List NewAssertion → Trees
assertion_boxes [] = none
assertion_boxes (a ∷ others) = more (assertion_box a) (assertion_boxes others)

-- the reference to the assertion with this label in its own manifest, with this digest
abbrev pub own_ref : List ℕ → List ℕ → Ref
own_ref label digest = record { url = uri_text (record { manifest = None; target = assertion label }); hash = digest; alg = None }

-- the reference to a new assertion in its own manifest's claim, where `hash` gives the digest of a list
abbrev pub entry_of : (List ℕ → List ℕ) → NewAssertion → Ref
entry_of hash a = own_ref a.label (hash (contents_of (assertion_box a)))

-- ---- the binding

-- a range of a file
abbrev pub range_at : ℕ → ℕ → Range
range_at start len = record { start = start; length = len }

-- the binding to what a file has outside one range, with this digest by an algorithm
abbrev pub data_binding : Alg → ℕ → ℕ → List ℕ → NewAssertion
data_binding alg start len digest = record {
  label = codes "c2pa.hash.data";
  kind = payload.Cbor;
  bytes = deterministic (data_hash_item (one_exclusion (Some (alg_name alg)) digest (range_at start len)));
}

-- ---- ingredients

-- A manifest that an ingredient of the new one names, as it stands in the new store: its label, its contents, and those of its signature
-- box.
pub record NamedManifest : Type 0 where
  pub label : List ℕ
  pub contents : List ℕ
  pub signed : List ℕ

-- An ingredient of a new manifest (C2PA Technical Specification 2.x, "Ingredient"): the label of its assertion, how it relates to the new
-- manifest, and the manifest that it is.
pub record NewIngredient : Type 0 where
  pub label : List ℕ
  pub relationship : Relationship
  pub of : NamedManifest

-- a reference to this target in the manifest with this label, with the digest of these contents
abbrev pub target_ref : (List ℕ → List ℕ) → List ℕ → PlainTarget → List ℕ → Ref
target_ref hash label target contents = record {
  url = uri_text (record { manifest = Some label; target = target });
  hash = hash contents;
  alg = None;
}

-- what is written of an ingredient
abbrev pub written_ingredient : (List ℕ → List ℕ) → NewIngredient → Ingredient
written_ingredient hash g = record {
  relationship = g.relationship;
  manifest = Some (target_ref hash g.of.label whole g.of.contents);
  signature = Some (target_ref hash g.of.label signature g.of.signed);
}

-- the assertion of an ingredient
abbrev pub ingredient_assertion : (List ℕ → List ℕ) → NewIngredient → NewAssertion
ingredient_assertion hash g = record {
  label = g.label;
  kind = payload.Cbor;
  bytes = deterministic (ingredient_item (written_ingredient hash g));
}

-- the ingredient that the parent is
abbrev pub parent_ingredient : NamedManifest → NewIngredient
parent_ingredient p = record { label = codes "c2pa.ingredient.v3"; relationship = ParentOf; of = p }

-- ---- the new manifest

-- What goes into a new store beside the binding and the signed message: the definition, the boxes that are carried of older stores, and
-- the ingredients.
pub record Content : Type 0 where
  pub definition : Definition
  pub carried : Trees
  pub ingredients : List NewIngredient

-- the new assertions: the definition's, those of the ingredients, the binding
abbrev pub new_assertions : (List ℕ → List ℕ) → Content → NewAssertion → List NewAssertion
new_assertions hash c binding =
    c.definition.assertions ++ (map (ingredient_assertion hash) c.ingredients ++ binding ∷ [])

-- the algorithm of each digest in the new manifest of a definition
abbrev pub new_alg : Definition → Alg
new_alg d = d.alg

-- what a claim of a definition says, with these entries
abbrev pub claim_with : Definition → List Ref → ClaimParts
claim_with d entries = record {
  label = d.label;
  instance = d.instance_id;
  generator = d.generator;
  title = d.title;
  alg = alg_name (new_alg d);
  entries = entries;
  redacted = d.redact;
}

-- what the new claim says
abbrev pub claim_parts : (List ℕ → List ℕ) → Content → NewAssertion → ClaimParts
claim_parts hash c binding = claim_with c.definition (map (entry_of hash) (new_assertions hash c binding))

-- the bytes of the new claim, which don't depend on the signed message
abbrev pub new_claim : (List ℕ → List ℕ) → Content → NewAssertion → List ℕ
new_claim hash c binding = deterministic (claim_item (claim_parts hash c binding))

-- a manifest: its assertion store, its claim, its signature
abbrev pub manifest_box : List ℕ → List NewAssertion → List ℕ → List ℕ → Tree
manifest_box label assertions claim message =
    fresh_box (codes "c2ma") label
    (more (fresh_box (codes "c2as") (codes "c2pa.assertions") (assertion_boxes assertions))
    (more (item_box (codes "c2cl") (codes "c2pa.claim.v2") claim)
    (more (item_box (codes "c2cs") (codes "c2pa.signature") message) none)))

-- the new manifest
abbrev pub new_manifest : (List ℕ → List ℕ) → Content → NewAssertion → List ℕ → Tree
new_manifest hash c binding message =
    manifest_box c.definition.label (new_assertions hash c binding) (new_claim hash c binding) message

-- ---- the store

-- the new store
abbrev pub new_store : (List ℕ → List ℕ) → Content → NewAssertion → List ℕ → Tree
new_store hash c binding message = store_box c.carried (new_manifest hash c binding message)
