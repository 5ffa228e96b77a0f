-- Ingredients by references to the manifests that they are: their assertions, and the labels of these.
use Rattle.std.proofs.Common.{◌≡◌, ℕ, List, Some, ap, ◌∙◌}
use Rattle.c2_spec.specs.C2pa.Uri.{PlainTarget, signature, whole}
use Rattle.c2_spec.specs.Cbor.Deterministic.{deterministic}
use Rattle.c2_spec.specs.Jumbf.Writing.{IsWrittenLabel}
use Rattle.c2_spec.specs.declared.assertion.Ingredient.{Ingredient}
use Rattle.c2_spec.specs.declared.assertion.Relationship.{Relationship}
use Rattle.c2_spec.specs.declared.cbor.Ref.{Ref}
use Rattle.c2_assertion.specs.Written.{ingredient_item}
use Rattle.c2_definition.specs.declared.types.NewAssertion.{NewAssertion}
use Rattle.c2_definition.specs.declared.types.Payload.{Payload}
use Rattle.c2_definition.specs.declared.types.Payload.TheVariants as payload
use Rattle.c2_new_file_spec.specs.Store.{NamedManifest, ingredient_assertion, target_ref, written_ingredient}
use Rattle.c2_new_file_spec.specs.Written.{IsIngredientLabel}
use Rattle.c2_new_file_spec.proofs.Ingredients.{good_label}
use Rattle.c2_new_file_spec.proofs.Labels.{written_label}
use Rattle.c2_layout.specs.Parts.{AreRefs, ingredient_by, told}
use Rattle.c2_layout.specs.declared.carried.ManifestRefs.{ManifestRefs}

-- ---- an ingredient

-- an assertion of these
abbrev pub new_assertion : List ℕ → Payload → List ℕ → NewAssertion
new_assertion label kind bytes = record { label = label; kind = kind; bytes = bytes }

-- what is written of an ingredient of two references
abbrev of_two : Relationship → Ref → Ref → Ingredient
of_two how m s = record { relationship = how; manifest = Some m; signature = Some s }

-- two references to a manifest are those that are written of it
pub two_told : (how : Relationship) (refs : ManifestRefs) (m s : Ref)
    → m ≡ target_ref told refs.label whole refs.contents
    → s ≡ target_ref told refs.label signature refs.signed → of_two how m s ≡ ingredient_by how refs
two_told how refs m s em es =
    ap (λ (r : Ref). of_two how r s) em
    ∙ ap (λ (r : Ref). of_two how (target_ref told refs.label whole refs.contents) r) es

-- a reference by a digest that is told is one by that digest
told_ref : (hash : List ℕ → List ℕ) (target : PlainTarget) (name label digest contents : List ℕ) → name ≡ label
    → digest ≡ hash contents
    → target_ref told name target digest ≡ target_ref hash label target contents
told_ref hash target name label digest contents e h =
    ap (λ (l : List ℕ). target_ref told l target digest) e ∙ ap (λ (x : List ℕ). target_ref told label target x) h

-- what is written by references to a manifest is what is written of the ingredient that it is
ingredient_told : (how : Relationship) (refs : ManifestRefs) (label : List ℕ) (hash : List ℕ → List ℕ) (p : NamedManifest)
    → AreRefs hash p refs
    → ingredient_by how refs ≡ written_ingredient hash (record { label = label; relationship = how; of = p })
ingredient_told how refs label hash p are =
    let manifest = told_ref hash whole refs.label p.label refs.contents p.contents are.label are.contents in
    let signed = told_ref hash signature refs.label p.label refs.signed p.signed are.label are.signed in
    ap (λ (r : Ref). of_two how r (target_ref told refs.label signature refs.signed)) manifest
    ∙ ap (λ (r : Ref). of_two how (target_ref hash p.label whole p.contents) r) signed

-- an assertion that was made by references to a manifest
pub made_ingredient : (name label made : List ℕ) (how : Relationship) (refs : ManifestRefs) → label ≡ name
    → made ≡ deterministic (ingredient_item (ingredient_by how refs)) → (hash : List ℕ → List ℕ) (p : NamedManifest)
    → AreRefs hash p refs
    → new_assertion label payload.Cbor made ≡ ingredient_assertion hash (record { label = name; relationship = how; of = p })
made_ingredient name label made how refs el eb hash p are =
    ap (λ (l : List ℕ). new_assertion l payload.Cbor made) el
    ∙ ap (new_assertion name payload.Cbor)
    (eb ∙ ap (λ (i : Ingredient). deterministic (ingredient_item i)) (ingredient_told how refs name hash p are))

-- ---- labels

-- the label of an ingredient may be written
pub ingredient_label : (label : List ℕ) → IsIngredientLabel label → IsWrittenLabel label
ingredient_label label h = written_label label (good_label label h).named
