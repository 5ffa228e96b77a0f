-- The error of each refusal.
use Rattle.std.proofs.Common.{◌≡◌, Option, Some, None, refl, sym, ap, ◌∙◌}
use Rattle.c2_lemmas.proofs.Options.{same_some}
use Rattle.c2_collect_spec.specs.Order.{CollectRefusal, bad_definition, bad_signature, label_clash, label_taken, media_refused, no_instance, open_box, other_refused, parent_fails, redaction_refused, reserve_too_small, store_too_large, too_many_manifests}
use Rattle.c2_build_refusals.specs.declared.error.BuildError.{BuildError}
use Rattle.c2_build_refusals.specs.declared.error.BuildError.TheVariants as build
use Rattle.c2_build_collect_base.specs.Errors.{ErrorsAreNoFaults, ErrorsTellRefusals, error_of}

-- the refusal of an error, where it is one of these
refusal_of : BuildError → Option CollectRefusal
refusal_of (build.MediaRefused reason number) = Some (media_refused reason number)
refusal_of (build.BadDefinition field) = Some (bad_definition field)
refusal_of (build.BadSignature test) = Some (bad_signature test)
refusal_of (build.ParentFails code uri) = Some (parent_fails (record { code = code; uri = uri }))
refusal_of (build.OtherRefused answer) = Some (other_refused answer)
refusal_of (build.LabelClash label) = Some (label_clash label)
refusal_of (build.LabelTaken label) = Some (label_taken label)
refusal_of (build.RedactionRefused text code) = Some (redaction_refused (record { text = text; code = code }))
refusal_of (build.OpenBox at) = Some (open_box at)
refusal_of build.NoInstance = Some no_instance
refusal_of (build.TooManyManifests count) = Some (too_many_manifests count)
refusal_of (build.StoreTooLarge len) = Some (store_too_large len)
refusal_of (build.ReserveTooSmall needed) = Some (reserve_too_small needed)
refusal_of e = None

-- the refusal of an error is the one that the error was made of
told : (a : CollectRefusal) → refusal_of (error_of a) ≡ Some a
unfolding refusal_of
told (media_refused reason number) = refl
told (bad_definition field) = refl
told (bad_signature test) = refl
told (parent_fails failing) = refl
told (other_refused answer) = refl
told (label_clash label) = refl
told (label_taken label) = refl
told (redaction_refused r) = refl
told (open_box at) = refl
told no_instance = refl
told (too_many_manifests count) = refl
told (store_too_large len) = refl
told (reserve_too_small needed) = refl

-- an error tells its refusal
pub tells : ErrorsTellRefusals
tells a b e = same_some a b (sym (told a) ∙ ap refusal_of e ∙ told b)

-- an error of a refusal says something of the inputs
pub no_faults : ErrorsAreNoFaults
no_faults (media_refused reason number) h = h
no_faults (bad_definition field) h = h
no_faults (bad_signature test) h = h
no_faults (parent_fails failing) h = h
no_faults (other_refused answer) h = h
no_faults (label_clash label) h = h
no_faults (label_taken label) h = h
no_faults (redaction_refused r) h = h
no_faults (open_box at) h = h
no_faults no_instance h = h
no_faults (too_many_manifests count) h = h
no_faults (store_too_large len) h = h
no_faults (reserve_too_small needed) h = h
