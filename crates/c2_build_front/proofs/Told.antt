-- The error of each refusal.
use Rattle.std.proofs.Common.{◌≡◌, Option, Some, None, refl, sym, ap, ◌∙◌}
use Rattle.c2_lemmas.proofs.Options.{same_some}
use Rattle.c2_new_front_spec.specs.Order.{FrontRefusal, bad_definition, bad_signature, bad_table, bad_tree, has_store, media_refused, not_bmff, offset_table, open_box, overflow, redaction_refused, reserve_too_small, store_too_large}
use Rattle.c2_build_refusals.specs.declared.error.BuildError.{BuildError}
use Rattle.c2_build_refusals.specs.declared.error.BuildError.TheVariants as build
use Rattle.c2_build_front.specs.Answers.{ErrorsAreOfRefusals}
use Rattle.c2_build_front.specs.Errors.{ErrorsAreNoFaults, ErrorsTellRefusals, error_of}

-- the refusal of an error, where it is one of these
refusal_of : BuildError → Option FrontRefusal
refusal_of (build.MediaRefused reason number) = Some (media_refused reason number)
refusal_of (build.BadDefinition field) = Some (bad_definition field)
refusal_of (build.BadSignature test) = Some (bad_signature test)
refusal_of build.NotBmff = Some not_bmff
refusal_of build.HasStore = Some has_store
refusal_of (build.OpenBox at) = Some (open_box at)
refusal_of (build.RedactionRefused text code) = Some (redaction_refused (record { text = text; code = code }))
refusal_of (build.OffsetTable at) = Some (offset_table at)
refusal_of (build.BadTree at) = Some (bad_tree at)
refusal_of (build.BadTable at) = Some (bad_table at)
refusal_of (build.StoreTooLarge len) = Some (store_too_large len)
refusal_of (build.Overflow at) = Some (overflow at)
refusal_of (build.ReserveTooSmall needed) = Some (reserve_too_small needed)
refusal_of e = None

-- the refusal of an error is the one that the error was made of
told : (a : FrontRefusal) → refusal_of (error_of a) ≡ Some a
unfolding refusal_of
told (media_refused reason number) = refl
told (bad_definition field) = refl
told (bad_signature test) = refl
told not_bmff = refl
told has_store = refl
told (open_box at) = refl
told (redaction_refused r) = refl
told (offset_table at) = refl
told (bad_tree at) = refl
told (bad_table at) = refl
told (store_too_large len) = refl
told (overflow at) = refl
told (reserve_too_small needed) = refl

-- an error tells its refusal
pub tells : ErrorsTellRefusals
tells a b e = same_some a b (sym (told a) ∙ ap refusal_of e ∙ told b)

-- an error of a refusal says something of the inputs
pub no_faults : ErrorsAreNoFaults
no_faults (media_refused reason number) h = h
no_faults (bad_definition field) h = h
no_faults (bad_signature test) h = h
no_faults not_bmff h = h
no_faults has_store h = h
no_faults (open_box at) h = h
no_faults (redaction_refused r) h = h
no_faults (offset_table at) h = h
no_faults (bad_tree at) h = h
no_faults (bad_table at) h = h
no_faults (store_too_large len) h = h
no_faults (overflow at) h = h
no_faults (reserve_too_small needed) h = h

-- no other error of such a build does
pub only : ErrorsAreOfRefusals
only before now (build.MediaRefused reason number) h = (media_refused reason number, refl)
only before now (build.BadDefinition field) h = (bad_definition field, refl)
only before now (build.BadSignature test) h = (bad_signature test, refl)
only before now build.NotBmff h = (not_bmff, refl)
only before now build.HasStore h = (has_store, refl)
only before now (build.ParentFails code uri) h = absurd h
only before now (build.OtherRefused answer) h = absurd h
only before now (build.LabelClash label) h = absurd h
only before now (build.LabelTaken label) h = absurd h
only before now (build.RedactionRefused text code) h = (redaction_refused (record { text = text; code = code }), refl)
only before now (build.OpenBox at) h = (open_box at, refl)
only before now build.NoInstance h = absurd h
only before now (build.OffsetTable at) h = (offset_table at, refl)
only before now (build.BadTree at) h = (bad_tree at, refl)
only before now (build.BadTable at) h = (bad_table at, refl)
only before now (build.TooManyManifests count) h = absurd h
only before now (build.StoreTooLarge len) h = (store_too_large len, refl)
only before now (build.Overflow at) h = (overflow at, refl)
only before now (build.ReserveTooSmall needed) h = (reserve_too_small needed, refl)
only before now build.ReadFault h = tt
only before now build.JudgeFault h = tt
only before now build.WriteFault h = tt
only before now build.NoMemory h = tt
