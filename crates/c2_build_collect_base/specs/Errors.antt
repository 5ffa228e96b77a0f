-- The error that is answered for each refusal of a build whose new store collects from two files.
use Rattle.std.specs.Prelude.{◌≡◌}
use Rattle.std.specs.declared.result.Result.{Result}
use Rattle.std.specs.declared.result.Result.TheVariants.{Ok, Err}
use Rattle.c2_collect_spec.specs.Order.{CollectRefusal, bad_definition, bad_signature, label_clash, label_taken, media_refused, no_instance, open_box, other_refused, parent_fails, redaction_refused, reserve_too_small, store_too_large, too_many_manifests}
use Rattle.c2_build_refusals.specs.Kinds.{SaysNothing, WithoutFault}
use Rattle.c2_build_refusals.specs.declared.error.BuildError.{BuildError}
use Rattle.c2_build_refusals.specs.declared.error.BuildError.TheVariants.{MediaRefused, BadDefinition, BadSignature, ParentFails, OtherRefused, LabelClash, LabelTaken, RedactionRefused, OpenBox, NoInstance, TooManyManifests, StoreTooLarge, ReserveTooSmall}

-- the error that is answered for this refusal
abbrev pub error_of : CollectRefusal → BuildError
error_of (media_refused reason number) = MediaRefused reason number
error_of (bad_definition field) = BadDefinition field
error_of (bad_signature test) = BadSignature test
error_of (parent_fails failing) = ParentFails failing.code failing.uri
error_of (other_refused answer) = OtherRefused answer
error_of (label_clash label) = LabelClash label
error_of (label_taken label) = LabelTaken label
error_of (redaction_refused r) = RedactionRefused r.text r.code
error_of (open_box at) = OpenBox at
error_of no_instance = NoInstance
error_of (too_many_manifests count) = TooManyManifests count
error_of (store_too_large len) = StoreTooLarge len
error_of (reserve_too_small needed) = ReserveTooSmall needed

-- Two refusals with one error are one: so an error tells which refusal it is.
abbrev pub ErrorsTellRefusals : Type 0
ErrorsTellRefusals = (a b : CollectRefusal) → error_of a ≡ error_of b → a ≡ b

-- No refusal is told as a fault or as want of memory: its error says something of the inputs.
abbrev pub ErrorsAreNoFaults : Type 0
ErrorsAreNoFaults = (a : CollectRefusal) → SaysNothing (error_of a) → ⊥

-- inputs that come to something are refused with this error
abbrev pub IsRefusedWith : {A : Type 0} → (Result A CollectRefusal → Type 0) → BuildError → Type 0
IsRefusedWith Is e = (refusal : CollectRefusal) × Is (Err refusal) × (e ≡ error_of refusal)

-- Over inputs that come to something a result is that: the same value, or the error of what is refused first. A fault and want of memory
-- say nothing of the inputs.
abbrev pub IsAnswerTo : {A : Type 0} → (Result A CollectRefusal → Type 0) → Result A BuildError → Type 0
IsAnswerTo Is (Ok a) = Is (Ok a)
IsAnswerTo Is (Err e) = WithoutFault e (IsRefusedWith Is e)
