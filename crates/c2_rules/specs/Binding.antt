-- The rule on the binding of the active manifest to the bytes of its media file (C2PA Technical Specification 2.x, "Hard bindings").
use Rattle.std.specs.Prelude.{ℕ, Bool, true, not, List, [], ◌∷◌, ◌≡◌, Option, Some, None, Ok, Err, ⊤, length, slice_get, codes, is_some, is_none, option_and_then, if◌then◌else◌}
use Rattle.std.specs.declared.result.Result.{Result}
use Rattle.c2_spec.specs.C2pa.Assertion.{data_hash_of}
use Rattle.c2_spec.specs.Bmff.Boxes.{Box}
use Rattle.c2_spec.specs.Bmff.Hash.{BmffHash, bmff_hash_of}
use Rattle.c2_spec.specs.Container.{Container, jpeg, bmff, IsContainer}
use Rattle.c2_spec.specs.Cbor.Item.{Item}
use Rattle.c2_spec.specs.Cbor.Lookup.{field_of}
use Rattle.c2_spec.specs.Cbor.Fields.{HasItem}
use Rattle.c2_spec.specs.declared.assertion.DataHash.{DataHash}
use Rattle.c2_spec.specs.declared.assertion.FieldError.{FieldError}
use Rattle.c2_spec.specs.declared.assertion.FieldError.TheVariants.{Merkle, Form, TooMany, Test, Path, NoMemory}
use Rattle.c2_spec.specs.declared.assertion.Kind.{Kind}
use Rattle.c2_spec.specs.declared.assertion.Kind.TheVariants as kinds
use Rattle.c2_spec.specs.declared.digest.Alg.{Alg}
use Rattle.c2_rules.specs.Chains.{label_in}
use Rattle.c2_spec.specs.Bmff.Cover.{IsBmffCover}
use Rattle.c2_spec.specs.Cover.{excluded_positions, data_text, bad_range}
use Rattle.c2_rules.specs.Ingredients.{assertion_uri}
use Rattle.c2_rules.specs.Readings.{ReadBox, Reading}
use Rattle.c2_rules.specs.Rules.{label_kind, manifest_uri, is_known, has_digest, bindings_in, box_with}
use Rattle.c2_rules.specs.Tests as tests
use Rattle.c2_rules.specs.declared.code.Code.{Code}
use Rattle.c2_rules.specs.declared.code.Code.TheVariants as code

-- A binding as its file sees it: the algorithm that it names, its digest, whether its ranges are in order inside the file, the
-- positions of the file that it excludes, in order, and the text that it covers.
pub record Binding : Type 0 where
  pub alg : Option (List ℕ)
  pub hash : List ℕ
  pub in_order : Bool
  pub excluded : List ℕ
  pub text : List ℕ

-- a media file: its bytes and its container
pub record Media : Type 0 where
  pub bytes : List ℕ
  pub container : Container

-- a file as media
pub record IsMedia (file : List ℕ) (m : Media) : Type 0 where
  pub bytes : m.bytes ≡ file
  pub container : IsContainer file m.container

-- ---- what the binding is

-- the label of the manifest's binding: of its first entry of a kind that is known
abbrev pub binding_label : Reading → Option (List ℕ)
binding_label r = slice_get (bindings_in r) 0

-- the assertion box of the binding
abbrev pub binding_box : Reading → Option ReadBox
binding_box r = option_and_then (box_with r) (binding_label r)

-- the item's bytes in that box
abbrev pub binding_payload : Reading → Option (List ℕ)
binding_payload r = option_and_then (λ (b : ReadBox). b.boxed.item) (binding_box r)

-- the item that a payload is, or none
abbrev pub IsItemOf : Option (List ℕ) → Option Item → Type 0
IsItemOf None None = ⊤
IsItemOf None (Some v) = ⊥
IsItemOf (Some bytes) None = (v : Item) → HasItem bytes v → ⊥
IsItemOf (Some bytes) (Some v) = HasItem bytes v

-- ---- what an item comes to as a binding

-- what a data hash comes to in a file with these bytes
abbrev pub data_binding : List ℕ → Result DataHash FieldError → Result Binding FieldError
data_binding file (Err e) = Err e
data_binding file (Ok d) =
    Ok (record {
      alg = d.alg;
      hash = d.hash;
      in_order = is_none (bad_range (length file) d.exclusions);
      excluded = excluded_positions d.exclusions (length file);
      text = data_text d.exclusions file;
    })

-- a BMFF hash has no place in a JPEG; a Merkle tree is refused before that
abbrev pub jpeg_refusal : Item → FieldError
jpeg_refusal v = if is_some (field_of (codes "merkle") v) then Merkle else Form

-- A BMFF hash over root boxes: algorithm and digest are the item's own, the boxes give the rest.
pub record IsBoxBinding (roots : List Box) (size : ℕ) (h : BmffHash) (b : Binding) : Type 0 where
  pub alg : b.alg ≡ h.alg
  pub hash : b.hash ≡ h.hash
  pub in_order : b.in_order ≡ true
  pub cover : IsBmffCover roots size h.exclusions b.excluded b.text

-- what a BMFF hash, or the refusal of its fields, comes to over these root boxes
abbrev pub IsBindingFrom : List Box → ℕ → Result BmffHash FieldError → Result Binding FieldError → Type 0
IsBindingFrom roots size (Err e) b = b ≡ Err e
IsBindingFrom roots size (Ok h) (Err e) = ⊥
IsBindingFrom roots size (Ok h) (Ok b) = IsBoxBinding roots size h b

-- what an item of a BMFF hash comes to in this container
abbrev pub IsBmffBinding : Container → ℕ → Item → Result Binding FieldError → Type 0
IsBmffBinding jpeg size v b = b ≡ Err (jpeg_refusal v)
IsBmffBinding (bmff roots) size v b = IsBindingFrom roots size (bmff_hash_of v) b

-- what an item of a binding of this kind comes to in a media file
abbrev pub IsBinding : Media → Kind → Item → Result Binding FieldError → Type 0
IsBinding media kinds.BmffHash v b = IsBmffBinding media.container (length media.bytes) v b
IsBinding media kind v b = b ≡ data_binding media.bytes (data_hash_of v)

-- what the binding with this label comes to, by what its item is: nothing where there is no item or no label
abbrev pub IsLabelledBinding : Media → Option (List ℕ) → Option Item
    → Option (Result Binding FieldError) → Type 0
IsLabelledBinding media (Some label) (Some v) (Some b) = IsBinding media (label_kind label) v b
IsLabelledBinding media (Some label) (Some v) None = ⊥
IsLabelledBinding media (Some label) None b = b ≡ None
IsLabelledBinding media None item b = b ≡ None

-- What the binding of a manifest comes to in a media file.
pub record HasBinding (media : Media) (r : Reading) (b : Option (Result Binding FieldError)) : Type
    0 where
  pub item : Option Item
  pub is_item : IsItemOf (binding_payload r) item
  pub is : IsLabelledBinding media (binding_label r) item b

-- ---- the rule

-- what is said of a refused field
abbrev pub field_code : FieldError → Code
field_code Merkle = code.UnsupportedMerkle
field_code Form = code.ProfileHashForm
field_code (TooMany count) = code.UnsupportedTooManyExclusions
field_code Test = code.UnsupportedExclusionTest
field_code Path = code.UnsupportedExclusionPath
field_code NoMemory = code.ProfileHashForm

-- what is said where the digest is another
abbrev pub mismatch_code : Kind → Code
mismatch_code kinds.BmffHash = code.AssertionBmffHashMismatch
mismatch_code kind = code.AssertionDataHashMismatch

-- the rule where the binding's item comes to this
abbrev pub bound_tests : (Alg → List ℕ → List ℕ) → Reading → List ℕ → Kind
    → Result Binding FieldError → List tests.Test
bound_tests hash r uri kind (Err e) = tests.test true (field_code e) uri ∷ []
bound_tests hash r uri kind (Ok b) =
    tests.test (not (is_known r b.alg)) code.AlgorithmUnsupported uri
    ∷ tests.test (not b.in_order) code.ProfileHashForm uri
    ∷ tests.test (not (has_digest hash r b.alg b.text b.hash)) (mismatch_code kind) uri
    ∷ []

-- the rule where there is an item, or none
abbrev pub item_tests : (Alg → List ℕ → List ℕ) → Reading → List ℕ → Kind
    → Option (Result Binding FieldError) → List tests.Test
item_tests hash r uri kind None = tests.test true code.AssertionCborInvalid uri ∷ []
item_tests hash r uri kind (Some b) = bound_tests hash r uri kind b

-- the binding with this label of the active manifest, which comes to this; a manifest whose rules hold has one
abbrev pub bound_to_tests : (Alg → List ℕ → List ℕ) → Reading → Option (Result Binding FieldError)
    → Option (List ℕ) → List tests.Test
bound_to_tests hash r binding None = tests.test true code.AssertionCborInvalid (manifest_uri r) ∷ []
bound_to_tests hash r binding (Some label) =
    item_tests hash r (assertion_uri (label_in r) label) (label_kind label) binding

-- the rule on the binding of this manifest, which comes to this
abbrev pub media_tests : (Alg → List ℕ → List ℕ) → Reading → Option (Result Binding FieldError)
    → List tests.Test
media_tests hash r binding = bound_to_tests hash r binding (binding_label r)

-- the binding, where the item is one
abbrev pub binding_value : Option (Result Binding FieldError) → Option Binding
binding_value None = None
binding_value (Some (Err e)) = None
binding_value (Some (Ok b)) = Some b
