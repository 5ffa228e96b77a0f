use Rattle.std.proofs.Common.{List, refl, subst, ℕ}
use Rattle.std.specs.Prelude.{Err, Ok}
use Rattle.c2_lemmas.specs.Stages.{Then}
use Rattle.c2_spec.specs.C2pa.Sign1.{SignParts}
use Rattle.c2_calls_spec.proofs.SourceLemmas.{stays_as_it_was}
use Rattle.c2_new_front_spec.specs.Outcomes.{IsBmffStage, IsMadeIn}
use Rattle.c2_new_front_spec.specs.Outcomes as front
use Rattle.c2_build_refusals.specs.Kinds.{WithoutFault}
use Rattle.c2_build_refusals.specs.Stages.{IsMessageStage}
use Rattle.c2_build_refusals.proofs.Outside.{alone, outside_map, read_cause, reads_earlier}
use Rattle.c2_build_refusals.proofs.Doing.{message_step}
use Rattle.c2_build_front.proofs.Causes.{reads_in, results_in}
use Rattle.c2_build_front.proofs.Drafts.{ready_next}
use Rattle.c2_build_front.proofs.Stages.{message_as, message_error, refused_first}
use Rattle.c2_build_front.specs.Answers.{prepare_effects}
use Rattle.c2_build_front.specs.Steps.{IsReadyFor}
use Rattle.c2_build_front.proofs.ready.Builder.ready_signed.Goals as goal

-- ---- the message is refused

pub returns-in-Err-clause-ready : goal.returns-in-Err-clause-ready
returns-in-Err-clause-ready g c = λ bytes known kind is size message due.
    let e = c.in-Err.error in
    let d = c.args.definition.now in
    let stage =
    subst (λ (x : List ℕ). WithoutFault e (IsMessageStage x message (Err e))) c.as_slice.ensures.value
    (c.in-Err.ensures.stage message due) in
    outside_map e (λ s. refused_first (front.IsMessageStage d.protected message) (λ p. Then (IsBmffStage bytes is.stage.0) (IsMadeIn g.H.Hashing.digest_of bytes d p)) e (message_error d.protected message e s)) stage

pub returns-in-Err-clause-media : goal.returns-in-Err-clause-media
returns-in-Err-clause-media g c =
    reads_earlier prepare_effects c.args.media.now c.args.media.now _ _ (Err c.in-Err.error)
    (stays_as_it_was _ _ _ c.args.media.now) refl (alone (λ rose. rose))
    (read_cause _ prepare_effects _ _ _ (message_step prepare_effects tt _ _ _ c.in-Err.ensures.cause))

pub returns-in-Err-clause-message : goal.returns-in-Err-clause-message
returns-in-Err-clause-message g c =
    record
    { stays = c.in-Err.ensures.stays; quiet = tt; cause = read_cause _ prepare_effects _ _ _ (message_step prepare_effects tt _ _ _ c.in-Err.ensures.cause) }

-- ---- it is read, and then comes what is behind it

pub returns-clause-ready : goal.returns-clause-ready
returns-clause-ready g c = λ bytes known kind is size message due.
    let d = c.args.definition.now in
    let r = c.ready_over.result in
    let m = c.in-Ok.ensures.stage message due in
    let stage = subst (λ (x : List ℕ). IsMessageStage x message (Ok m.0)) c.as_slice.ensures.value m.1 in
    let own =
    subst
    (λ (p : SignParts). IsReadyFor bytes (Then (IsBmffStage bytes is.stage.0) (IsMadeIn g.H.Hashing.digest_of bytes d p)) r)
    m.2 (c.ready_over.ensures.ready bytes known kind is size) in
    ready_next bytes (front.IsMessageStage d.protected message) _ m.0 r (message_as d.protected message m.0 stage) own

pub returns-clause-can_write : goal.returns-clause-can_write
returns-clause-can_write g c = c.ready_over.ensures.can_write

pub returns-clause-media : goal.returns-clause-media
returns-clause-media g c =
    reads_in _ prepare_effects c.args.media.now c.ready_over.new.media c.ready_over.result c.ready_over.ensures.reads

pub returns-clause-message : goal.returns-clause-message
returns-clause-message g c =
    reads_earlier prepare_effects c.args.signature.now c.read_message_file.new.file _ _ c.ready_over.result
    c.in-Ok.ensures.stays c.in-Ok.ensures.count (alone (λ rose. rose))
    (results_in _ prepare_effects _ _ c.ready_over.result c.ready_over.ensures.reads.cause)
