use Rattle.std.proofs.Common.{ap, length, subst, sym, ◌∙◌, ℕ}
use Rattle.std.specs.Prelude.{Err}
use Rattle.c2_bmff_binding_front.specs.Putting.{FitsIn}
use Rattle.c2_calls_spec.proofs.SourceLemmas.{reads_next, reads_then}
use Rattle.c2_new_signature.specs.Signed.{IsSigned}
use Rattle.c2_spec.specs.C2pa.Sign1.{parts_of}
use Rattle.c2_new_front_spec.specs.Outcomes.{IsMadeIn, new_file}
use Rattle.c2_build_refusals.proofs.Doing.{message_step}
use Rattle.c2_build_refusals.proofs.Outside.{nothing_said, outside_map}
use Rattle.c2_build_front.proofs.Causes.{plan_prepares, prepares_of}
use Rattle.c2_build_front.proofs.Drafts.{made_of, reserve_refused}
use Rattle.c2_build_front.proofs.Stages.{made_refuses, refused_over}
use Rattle.c2_build_front.specs.Answers.{prepare_effects}
use Rattle.c2_build_front.specs.Steps.{CanWrite}
use Rattle.c2_build_front.proofs.ready.Builder.ready_over.Goals as goal

-- ---- the media is refused, or a plan over it

pub returns-in-Err-clause-ready : goal.returns-in-Err-clause-ready
returns-in-Err-clause-ready g c = λ bytes known kind is size.
    let hash = g.H.Hashing.digest_of in
    let d = c.args.definition.now in
    let p = parts_of c.args.sign.now in
    outside_map c.in-Err.error (refused_over bytes is.stage.0 d c.in-Err.error (IsMadeIn hash bytes d p) (made_refuses hash bytes d p)) (c.in-Err.ensures.refused bytes known kind is size)

pub returns-in-Err-clause-reads : goal.returns-in-Err-clause-reads
returns-in-Err-clause-reads g c =
    record
    { stays = c.in-Err.ensures.reads.stays; quiet = tt; cause = plan_prepares _ _ _ c.in-Err.ensures.reads.cause }

-- ---- the message needs more

pub returns-in-Err-padded-clause-ready : goal.returns-in-Err-padded-clause-ready
returns-in-Err-padded-clause-ready g c = λ bytes known kind is size.
    let d = c.args.definition.now in
    outside_map c.in-Err-padded.error (reserve_refused g.H.Hashing.digest_of bytes is.stage.0 d c.in-Ok.front (parts_of c.args.sign.now) c.in-Err-padded.error (c.in-Ok.ensures.drafted bytes known kind is)) c.in-Err-padded.ensures.refused

pub returns-in-Err-padded-clause-reads : goal.returns-in-Err-padded-clause-reads
returns-in-Err-padded-clause-reads g c =
    reads_then _ _ _ _ _ c.args.media.now c.drafted.new.media c.in-Ok.front (Err c.in-Err-padded.error)
    (prepares_of _ _ _ c.in-Ok.ensures.reads.quiet
    (message_step prepare_effects tt _ _ _ (c.in-Err-padded.ensures.cause _)))
    c.in-Ok.ensures.reads

-- ---- a new file is ready

pub ready_with-requires-clause-fits : goal.ready_with-requires-clause-fits
ready_with-requires-clause-fits g c =
    subst (λ (n : ℕ). FitsIn n c.in-Ok.front) (sym c.in-Ok.ensures.reads.stays.same_len) c.in-Ok.ensures.fits

pub ready_with-requires-clause-filled : goal.ready_with-requires-clause-filled
ready_with-requires-clause-filled g c = ap length c.as_slice.ensures.value ∙ c.in-Ok-padded.ensures.signed.filled

pub returns-in-Ok-ready_with-clause-ready : goal.returns-in-Ok-ready_with-clause-ready
returns-in-Ok-ready_with-clause-ready g c = λ bytes known kind is size.
    let hash = g.H.Hashing.digest_of in
    let d = c.args.definition.now in
    let p = parts_of c.args.sign.now in
    let message = c.as_slice.result.now in
    let k = c.in-Ok.ensures.drafted bytes known kind is in
    let signed = subst (IsSigned p d.reserve) (sym c.as_slice.ensures.value) c.in-Ok-padded.ensures.signed in (
      new_file hash bytes k.roots d message,
      made_of hash bytes is.stage.0 d c.in-Ok.front p message k signed,
      c.in-Ok-ready_with.ensures.ready bytes (c.in-Ok.ensures.reads.stays.same_bytes ∙ known) is.stage.0 k,
    )

pub returns-in-Ok-ready_with-clause-can_write : goal.returns-in-Ok-ready_with-clause-can_write
returns-in-Ok-ready_with-clause-can_write g c =
    subst (λ (n : ℕ). CanWrite n c.in-Ok-ready_with.ready) c.in-Ok.ensures.reads.stays.same_len
    c.in-Ok-ready_with.ensures.can_write

pub returns-in-Ok-ready_with-clause-reads : goal.returns-in-Ok-ready_with-clause-reads
returns-in-Ok-ready_with-clause-reads g c =
    reads_next _ _ _ _ _ c.args.media.now c.drafted.new.media c.ready_with.new.media c.in-Ok.front _ c.in-Ok.ensures.reads (record { stays = c.in-Ok-ready_with.ensures.reads.stays; quiet = c.in-Ok-ready_with.ensures.reads.quiet; cause = tt })

-- ---- the media failed, or memory did

pub returns-clause-ready : goal.returns-clause-ready
returns-clause-ready g c = λ bytes known kind is size.
    nothing_said c.in-Err-ready_with.error _ (c.in-Err-ready_with.ensures.nothing bytes (c.in-Ok.ensures.reads.stays.same_bytes ∙ known) is.stage.0 (c.in-Ok.ensures.drafted bytes known kind is))
