-- The fields of a binding, and what they come to in a media file (C2PA Technical Specification 2.x, "Hard bindings").
use Rattle.std.specs.Prelude.{◌≡◌, ◌⊎◌, ℕ, ⊤, true, false, List, All, Option, Ok, Err, length}
use Rattle.std.specs.declared.result.Result.{Result}
use Rattle.c2_base.specs.Causes.{Rose}
use Rattle.c2_bmff_rows.specs.Rows.{IsBoxWithin, rows_of}
use Rattle.c2_spec.specs.Bmff.Boxes.{Box, HasRoots}
use Rattle.c2_spec.specs.Cbor.Item.{Item}
use Rattle.c2_spec.specs.declared.assertion.FieldError.{FieldError}
use Rattle.c2_spec.specs.declared.assertion.FieldError.TheVariants as field
use Rattle.c2_spec.specs.declared.assertion.Kind.{Kind}
use Rattle.c2_rules.specs.Binding.{Binding, IsBinding, IsBoxBinding}
use Rattle.c2_rules.specs.Binding as rules
use Rattle.c2_rules.specs.declared.code.Code.{Code}
use Rattle.c2_rules.specs.declared.code.Code.TheVariants as code
use Rattle.c2_cover.specs.Covers.{Covered, excluded_of, text_of}
use Rattle.c2_cover.specs.declared.cover.CoverError.{CoverError}
use Rattle.c2_cover.specs.declared.cover.CoverError.TheVariants.{BadRange, ReadFault, NoMemory}
use Rattle.c2_opening.specs.Media.{IsMediaOf}
use Rattle.c2_hard_binding.specs.Bindings.{data_binding_of}
use Rattle.c2_container.specs.declared.types.Container.{Container}
use Rattle.c2_hard_binding.specs.declared.fields.HardBinding.{HardBinding}
use Rattle.c2_hard_binding.specs.declared.fields.HardBinding.TheVariants.{Data, Bmff}

-- the algorithm that the fields name
abbrev pub named_alg : HardBinding → Option (List ℕ)
named_alg (Data d) = d.alg
named_alg (Bmff h roots) = h.alg

-- the digest
abbrev pub named_hash : HardBinding → List ℕ
named_hash (Data d) = d.hash
named_hash (Bmff h roots) = h.hash

-- the root boxes end inside a file of this length
abbrev pub HasBoxesInside : ℕ → HardBinding → Type 0
HasBoxesInside len (Data d) = ⊤
HasBoxesInside len (Bmff h roots) = All (IsBoxWithin len) roots.now

-- in a file with these bytes the fields come to this binding: root boxes that were read are those of the file
abbrev pub IsBindingFields : List ℕ → HardBinding → Binding → Type 0
IsBindingFields file (Data d) b = b ≡ data_binding_of file d
IsBindingFields file (Bmff h roots) b =
    (boxes : List Box) × HasRoots file boxes × (roots.now ≡ rows_of boxes)
    × IsBoxBinding boxes (length file) h b

-- what is said where the digest is another
abbrev pub code_of : HardBinding → Code
code_of (Data d) = code.AssertionDataHashMismatch
code_of (Bmff h roots) = code.AssertionBmffHashMismatch

-- where an item comes to this in a file with these bytes, this was read of it: fields that come to the binding, or the refusal of a field,
-- unless memory ran out
abbrev pub ReadsTo : List ℕ → Result HardBinding FieldError → Result Binding FieldError → Type 0
ReadsTo file (Ok h) b = (x : Binding) × (b ≡ Ok x) × IsBindingFields file h x
ReadsTo file (Err e) b = (e ≡ field.NoMemory) ⊎ (b ≡ Err e)

-- an item of this kind was read to this result: whatever binding or refusal the item comes to in a file of this container, the result's
-- fields come to that binding, or the result is that refusal, unless memory ran out
abbrev pub ReadsAs : Container → Kind → Item → Result HardBinding FieldError → Type 0
ReadsAs c kind v result =
    (file : List ℕ) (m : rules.Media) → IsMediaOf file c m
    → (b : Result Binding FieldError) → IsBinding m kind v b → ReadsTo file result b

-- this cover of a file is the binding's, whose ranges are in order
pub record CoversAs (file : List ℕ) (b : Binding) (c : Covered) : Type 0 where
  pub in_order : b.in_order ≡ true
  pub excluded : excluded_of c ≡ b.excluded
  pub text : text_of c file ≡ b.text

-- the binding has no cover where its ranges aren't in order
abbrev pub HasNoCover : Binding → CoverError → Type 0
HasNoCover b (BadRange i) = b.in_order ≡ false
HasNoCover b ReadFault = ⊤
HasNoCover b NoMemory = ⊤

-- the cause of an error of the cover, by the source's count of faults before and after: a bad range is found without a fault
abbrev pub IsCoverCause : ℕ → ℕ → CoverError → Type 0
IsCoverCause before now (BadRange i) = now ≡ before
IsCoverCause before now ReadFault = Rose before now
IsCoverCause before now NoMemory = ⊤
