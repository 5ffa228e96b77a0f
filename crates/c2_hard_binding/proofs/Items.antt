-- The item of a binding, and the media that it binds.
use Rattle.std.proofs.Common.{◌≡◌, ℕ, true, false, List, length, Option, Some, Result, option_and_then, sym, ap, ◌∙◌, subst}
use Rattle.c2_spec.specs.C2pa.Assertion.{data_hash_of}
use Rattle.c2_spec.specs.Cbor.Item.{Item}
use Rattle.c2_spec.specs.declared.assertion.FieldError.{FieldError}
use Rattle.c2_spec.specs.declared.assertion.Kind.{Kind}
use Rattle.c2_spec.specs.declared.assertion.Kind.TheVariants as kinds
use Rattle.c2_rules.specs.Binding.{Binding, Media, IsItemOf, HasBinding, IsBinding, IsBmffBinding, IsLabelledBinding, binding_label, binding_payload, data_binding}
use Rattle.c2_rules.specs.Readings.{ReadBox, Reading}
use Rattle.c2_rules.specs.Rules.{box_with}
use Rattle.c2_hard_binding.specs.Bindings.{is_bmff_kind, item_with}
use Rattle.c2_opening.specs.Media.{IsMediaOf}
use Rattle.c2_container.specs.declared.types.Container.{Container}
use Rattle.c2_container.specs.declared.types.Container.TheVariants.{Jpeg, Bmff}
use Rattle.c2_rules.proofs.OneReading.{one_item_of}

-- media have the file's bytes
pub media_bytes : (file : List ℕ) (c : Container) (m : Media) → IsMediaOf file c m → m.bytes ≡ file
media_bytes file Jpeg m h = ap (λ (x : Media). x.bytes) h
media_bytes file (Bmff rows) m h = ap (λ (x : Media). x.bytes) h.3

-- an item of the kind of BMFF hashes is read as one
pub bmff_item : (media : Media) (kind : Kind) (v : Item) (b : Result Binding FieldError) → is_bmff_kind kind ≡ true
    → IsBinding media kind v b → IsBmffBinding media.container (length media.bytes) v b
bmff_item media kinds.BmffHash v b is h = h
bmff_item media kinds.DataHash v b is h = absurd (cc (is))
bmff_item media kinds.OtherHash v b is h = absurd (cc (is))
bmff_item media kinds.Ingredient v b is h = absurd (cc (is))
bmff_item media kinds.IngredientOther v b is h = absurd (cc (is))
bmff_item media kinds.Actions v b is h = absurd (cc (is))
bmff_item media kinds.Cloud v b is h = absurd (cc (is))
bmff_item media kinds.Ordinary v b is h = absurd (cc (is))

-- an item of another kind is read as a data hash
pub data_item : (media : Media) (kind : Kind) (v : Item) (b : Result Binding FieldError) → is_bmff_kind kind ≡ false
    → IsBinding media kind v b → b ≡ data_binding media.bytes (data_hash_of v)
data_item media kinds.BmffHash v b is h = absurd (cc (is))
data_item media kinds.DataHash v b is h = h
data_item media kinds.OtherHash v b is h = h
data_item media kinds.Ingredient v b is h = h
data_item media kinds.IngredientOther v b is h = h
data_item media kinds.Actions v b is h = h
data_item media kinds.Cloud v b is h = h
data_item media kinds.Ordinary v b is h = h

-- the payload of a binding is the item in the box with its label
payload_is : (r : Reading) (label : List ℕ) → binding_label r ≡ Some label → binding_payload r ≡ item_with r label
payload_is r label is =
    ap (λ (o : Option (List ℕ)). option_and_then (λ (b : ReadBox). b.boxed.item) (option_and_then (box_with r) o)) is

-- the item that was read is that of the binding
pub same_item :
    (media : Media) (r : Reading) (label : List ℕ) (payload : Option (List ℕ)) (item : Option Item)
    (b : Option (Result Binding FieldError))
    → binding_label r ≡ Some label → payload ≡ item_with r label → IsItemOf payload item
    → HasBinding media r b → IsLabelledBinding media (Some label) item b
same_item media r label payload item b is same read has =
    let there : IsItemOf (binding_payload r) item =
    subst (λ (o : Option (List ℕ)). IsItemOf o item) (same ∙ sym (payload_is r label is)) read in
    let one : has.item ≡ item = one_item_of (binding_payload r) has.item item has.is_item there in
    subst (λ (o : Option (List ℕ)). IsLabelledBinding media o item b) is
    (subst (λ (v : Option Item). IsLabelledBinding media (binding_label r) v b) one has.is)
