use Rattle.std.proofs.Common.{refl}
use Rattle.std.specs.Prelude.{Err}
use Rattle.c2_calls_spec.proofs.SourceLemmas.{reads_nothing, stays_as_it_was}
use Rattle.c2_build_refusals.proofs.Inputs.{not_both_media, told_where_due}
use Rattle.c2_build_refusals.proofs.Outside.{alone, outside_map, plain_cause, quiet_cause, reads_earlier}
use Rattle.c2_new_front_spec.specs.Outcomes.{IsPlannedOver}
use Rattle.c2_new_front_spec.specs.Outcomes as front
use Rattle.c2_build_front.proofs.Stages.{answer_next, defined_as, definition_error, media_error, opened_as, refused_first, refused_next}
use Rattle.c2_build_front.proofs.Sized.{has_size}
use Rattle.c2_build_front.proofs.Causes.{reads_in, results_in}
use Rattle.c2_build_front.specs.Answers.{plan_effects}
use Rattle.c2_build_front.proofs.planning.plan_in.Goals as goal

-- ---- the store is refused

pub returns-in-Err-clause-planned : goal.returns-in-Err-clause-planned
returns-in-Err-clause-planned g c = λ file known bytes told.
    outside_map c.in-Err.error (λ s. refused_first (front.IsMediaStage file) (IsPlannedOver g.H.Hashing.digest_of file bytes) c.in-Err.error (media_error file c.in-Err.error s)) (c.in-Err.ensures.stage file (c.requires.found file known))

pub returns-in-Err-clause-sources : goal.returns-in-Err-clause-sources
returns-in-Err-clause-sources g c = record {
  media = reads_nothing _ _ _ _ c.args.media.now _ (quiet_cause _ plan_effects _ _ _ refl c.in-Err.ensures.quiet);
  definition =
      reads_nothing _ _ _ _ c.args.definition.now _ (quiet_cause _ plan_effects _ _ _ refl c.in-Err.ensures.quiet);
}

-- ---- the definition is refused

pub returns-in-Err-read_definition_file-clause-planned : goal.returns-in-Err-read_definition_file-clause-planned
returns-in-Err-read_definition_file-clause-planned g c = λ file known bytes due.
    let e = c.in-Err-read_definition_file.error in
    let media = c.in-Ok.ensures.stage file (c.requires.found file known) in
    let told = told_where_due due (λ refused. not_both_media file media.0 media.1 refused) in
    outside_map e (λ s. refused_next (front.IsMediaStage file) (IsPlannedOver g.H.Hashing.digest_of file bytes) media.1.0 e (opened_as file media.0 media.1)
    (refused_first (front.IsDefinitionStage bytes) _ e (definition_error bytes e s))) (c.in-Err-read_definition_file.ensures.stage bytes told)

pub returns-in-Err-read_definition_file-clause-not_due : goal.returns-in-Err-read_definition_file-clause-not_due
returns-in-Err-read_definition_file-clause-not_due g c = λ file known refused.
    let media = c.in-Ok.ensures.stage file (c.requires.found file known) in
    not_both_media file media.0 media.1 refused

pub returns-in-Err-read_definition_file-clause-sources : goal.returns-in-Err-read_definition_file-clause-sources
returns-in-Err-read_definition_file-clause-sources g c = record {
  media =
      reads_earlier plan_effects c.args.media.now c.args.media.now _ _ (Err c.in-Err-read_definition_file.error)
      (stays_as_it_was _ _ _ c.args.media.now) refl (alone (λ rose. rose))
      (plain_cause _ plan_effects _ _ _ c.in-Err-read_definition_file.ensures.cause);
  definition = record {
    stays = c.in-Err-read_definition_file.ensures.stays;
    quiet = tt;
    cause = plain_cause _ plan_effects _ _ _ c.in-Err-read_definition_file.ensures.cause;
  };
}

-- ---- what comes behind the media and the definition

pub plan_over-requires-clause-read : goal.plan_over-requires-clause-read
plan_over-requires-clause-read g c = c.in-Ok.ensures.inside (g.A.Source.len c.args.media.now) c.requires.inside

pub returns-clause-planned : goal.returns-clause-planned
returns-clause-planned g c = λ file known bytes due.
    let d = c.in-Ok-read_definition_file.definition in
    let media = c.in-Ok.ensures.stage file (c.requires.found file known) in
    let told = told_where_due due (λ refused. not_both_media file media.0 media.1 refused) in
    let stage = c.in-Ok-read_definition_file.ensures.stage bytes told in
    answer_next (front.IsMediaStage file) (IsPlannedOver g.H.Hashing.digest_of file bytes) media.2.stage.0
    c.plan_over.result (opened_as file media.0 media.2.stage)
    (answer_next (front.IsDefinitionStage bytes) _ d c.plan_over.result (defined_as bytes d stage)
    (c.plan_over.ensures.planned file known media.0 media.2 (has_size bytes d stage)))

pub returns-clause-not_due : goal.returns-clause-not_due
returns-clause-not_due g c = λ file known refused.
    let media = c.in-Ok.ensures.stage file (c.requires.found file known) in
    not_both_media file media.0 media.1 refused

pub returns-clause-sources : goal.returns-clause-sources
returns-clause-sources g c = record {
  media = reads_in _ plan_effects c.args.media.now c.plan_over.new.media c.plan_over.result c.plan_over.ensures.reads;
  definition =
      reads_earlier plan_effects c.args.definition.now c.read_definition_file.new.file _ _ c.plan_over.result
      c.in-Ok-read_definition_file.ensures.stays c.in-Ok-read_definition_file.ensures.count (alone (λ rose. rose))
      (results_in _ plan_effects _ _ c.plan_over.result c.plan_over.ensures.reads.cause);
}
