-- The error that is answered for each refusal of a build in front of a BMFF file.
use Rattle.std.specs.Prelude.{◌≡◌}
use Rattle.std.specs.declared.result.Result.{Result}
use Rattle.std.specs.declared.result.Result.TheVariants.{Ok, Err}
use Rattle.c2_new_front_spec.specs.Order.{FrontRefusal, bad_definition, bad_signature, bad_table, bad_tree, has_store, media_refused, not_bmff, offset_table, open_box, overflow, redaction_refused, reserve_too_small, store_too_large}
use Rattle.c2_build_refusals.specs.Kinds.{SaysNothing, WithoutFault}
use Rattle.c2_build_refusals.specs.declared.error.BuildError.{BuildError}
use Rattle.c2_build_refusals.specs.declared.error.BuildError.TheVariants.{MediaRefused, BadDefinition, BadSignature, NotBmff, HasStore, RedactionRefused, OpenBox, OffsetTable, BadTree, BadTable, StoreTooLarge, Overflow, ReserveTooSmall}

-- the error that is answered for this refusal
abbrev pub error_of : FrontRefusal → BuildError
error_of (media_refused reason number) = MediaRefused reason number
error_of (bad_definition field) = BadDefinition field
error_of (bad_signature test) = BadSignature test
error_of not_bmff = NotBmff
error_of has_store = HasStore
error_of (open_box at) = OpenBox at
error_of (redaction_refused r) = RedactionRefused r.text r.code
error_of (offset_table at) = OffsetTable at
error_of (bad_tree at) = BadTree at
error_of (bad_table at) = BadTable at
error_of (store_too_large len) = StoreTooLarge len
error_of (overflow at) = Overflow at
error_of (reserve_too_small needed) = ReserveTooSmall needed

-- Two refusals with one error are one: so an error tells which refusal it is.
abbrev pub ErrorsTellRefusals : Type 0
ErrorsTellRefusals = (a b : FrontRefusal) → error_of a ≡ error_of b → a ≡ b

-- No refusal is told as a fault or as want of memory: its error says something of the inputs.
abbrev pub ErrorsAreNoFaults : Type 0
ErrorsAreNoFaults = (a : FrontRefusal) → SaysNothing (error_of a) → ⊥

-- inputs that come to something are refused with this error
abbrev pub IsRefusedWith : {A : Type 0} → (Result A FrontRefusal → Type 0) → BuildError → Type 0
IsRefusedWith Is e = (refusal : FrontRefusal) × Is (Err refusal) × (e ≡ error_of refusal)

-- Over inputs that come to something a result is that: the same value, or the error of what is refused first. A fault and want of memory
-- say nothing of the inputs.
abbrev pub IsAnswerTo : {A : Type 0} → (Result A FrontRefusal → Type 0) → Result A BuildError → Type 0
IsAnswerTo Is (Ok a) = Is (Ok a)
IsAnswerTo Is (Err e) = WithoutFault e (IsRefusedWith Is e)
