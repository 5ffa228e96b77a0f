use Rattle.c2_lemmas.proofs.Stages.{stage_value}
use Rattle.std.proofs.Common.{map, refl}
use Rattle.std.specs.Prelude.{Err}
use Rattle.c2_spec.specs.Judges.Panel.{panel_says}
use Rattle.c2_calls_spec.proofs.SourceLemmas.{reads_nothing, stays_as_it_was}
use Rattle.c2_definition.specs.DefinitionFile.{IsDefinition}
use Rattle.c2_build_refusals.specs.Stages.{IsDefinitionStage, IsMediaStage}
use Rattle.c2_build_refusals.specs.declared.error.BuildError.TheVariants.{BadDefinition}
use Rattle.c2_build_refusals.proofs.Stages.{comes_first, comes_next}
use Rattle.c2_build_refusals.proofs.Judged.{hears_as, hears_none, quiet_unheard, read_unheard}
use Rattle.c2_build_refusals.proofs.Inputs.{not_both_media, told_where_due}
use Rattle.c2_build_refusals.proofs.Outside.{alone, plain_cause, quiet_cause, reads_among, reads_earlier}
use Rattle.c2_build_plain.proofs.Unasked.{planned_asks, refused_plan, undefined_plan}
use Rattle.c2_build_refusals.specs.Kinds.{judge_effects, no_effects}
use Rattle.c2_build_plain.proofs.planning.plan_in.Goals as goal

-- ---- the store is refused

pub returns-in-Err-clause-planned : goal.returns-in-Err-clause-planned
returns-in-Err-clause-planned g c =
    λ file known bytes told. comes_first (IsMediaStage file) _ c.in-Err.error (c.in-Err.ensures.stage file (c.requires.found file known))

pub returns-in-Err-clause-sources : goal.returns-in-Err-clause-sources
returns-in-Err-clause-sources g c = record {
  media = reads_nothing _ _ _ _ c.args.media.now _ (quiet_cause _ judge_effects _ _ _ refl c.in-Err.ensures.quiet);
  definition =
      reads_nothing _ _ _ _ c.args.definition.now _ (quiet_cause _ judge_effects _ _ _ refl c.in-Err.ensures.quiet);
}

pub returns-in-Err-clause-panel : goal.returns-in-Err-clause-panel
returns-in-Err-clause-panel g c =
    let said = panel_says (map (λ j. (goal.Judge-dyn g (j.vtable, j.value)).says j.value) c.args.judges.now.items) in
    hears_none c.args.judges.now c.in-Err.error (quiet_unheard _ c.in-Err.ensures.quiet)
    (refused_plan g.H.Hashing.digest_of said (g.A.Source.known c.args.media.now) (g.B.Source.known c.args.definition.now) c.in-Err.error (λ file known. c.in-Err.ensures.stage file (c.requires.found file known)))

-- ---- the definition is refused

pub returns-in-Err-read_definition_file-clause-planned : goal.returns-in-Err-read_definition_file-clause-planned
returns-in-Err-read_definition_file-clause-planned g c = λ file known bytes due.
    let media = c.in-Ok.ensures.stage file (c.requires.found file known) in
    let told = told_where_due due (λ refused. not_both_media file media.0 media.1 refused) in
    comes_next (IsMediaStage file) _ media.0 (Err c.in-Err-read_definition_file.error) media.1
    (comes_first (IsDefinitionStage bytes) _ c.in-Err-read_definition_file.error (c.in-Err-read_definition_file.ensures.stage bytes told))

pub returns-in-Err-read_definition_file-clause-not_due : goal.returns-in-Err-read_definition_file-clause-not_due
returns-in-Err-read_definition_file-clause-not_due g c = λ file known refused.
    let media = c.in-Ok.ensures.stage file (c.requires.found file known) in
    not_both_media file media.0 media.1 refused

pub returns-in-Err-read_definition_file-clause-sources : goal.returns-in-Err-read_definition_file-clause-sources
returns-in-Err-read_definition_file-clause-sources g c = record {
  media =
      reads_earlier judge_effects c.args.media.now c.args.media.now _ _ (Err c.in-Err-read_definition_file.error)
      (stays_as_it_was _ _ _ c.args.media.now) refl (alone (λ rose. rose))
      (plain_cause _ judge_effects _ _ _ c.in-Err-read_definition_file.ensures.cause);
  definition = record {
    stays = c.in-Err-read_definition_file.ensures.stays;
    quiet = tt;
    cause = plain_cause _ judge_effects _ _ _ c.in-Err-read_definition_file.ensures.cause;
  };
}

pub returns-in-Err-read_definition_file-clause-panel : goal.returns-in-Err-read_definition_file-clause-panel
returns-in-Err-read_definition_file-clause-panel g c =
    let said = panel_says (map (λ j. (goal.Judge-dyn g (j.vtable, j.value)).says j.value) c.args.judges.now.items) in
    hears_none c.args.judges.now c.in-Err-read_definition_file.error (read_unheard no_effects _ _ _ c.in-Err-read_definition_file.ensures.cause)
    (undefined_plan g.H.Hashing.digest_of said (g.A.Source.known c.args.media.now) (g.B.Source.known c.args.definition.now) c.in-Ok.read
    (λ file known. let media = c.in-Ok.ensures.stage file (c.requires.found file known) in (media.0, media.2)) c.in-Err-read_definition_file.error (λ bytes known. c.in-Err-read_definition_file.ensures.stage bytes known))

-- ---- what comes behind the media and the definition

pub plan_over-requires-clause-read : goal.plan_over-requires-clause-read
plan_over-requires-clause-read g c = c.in-Ok.ensures.inside (g.A.Source.len c.args.media.now) c.requires.inside

pub returns-clause-planned : goal.returns-clause-planned
returns-clause-planned g c = λ file known bytes due.
    let media = c.in-Ok.ensures.stage file (c.requires.found file known) in
    let told = told_where_due due (λ refused. not_both_media file media.0 media.1 refused) in
    let d = c.in-Ok-read_definition_file.definition in
    let stage = c.in-Ok-read_definition_file.ensures.stage bytes told in
    comes_next (IsMediaStage file) _ media.0 c.plan_over.result media.1
    (comes_next (IsDefinitionStage bytes) _ d c.plan_over.result stage
    (c.plan_over.ensures.planned file known media.0 media.2
    (bytes, stage_value BadDefinition (IsDefinition bytes) d stage)))

pub returns-clause-not_due : goal.returns-clause-not_due
returns-clause-not_due g c = λ file known refused.
    let media = c.in-Ok.ensures.stage file (c.requires.found file known) in
    not_both_media file media.0 media.1 refused

pub returns-clause-sources : goal.returns-clause-sources
returns-clause-sources g c = record {
  media =
      reads_among judge_effects c.args.media.now c.plan_over.new.media c.plan_over.result (λ none. absurd none)
      c.plan_over.ensures.reads;
  definition =
      reads_earlier judge_effects c.args.definition.now c.read_definition_file.new.file _ _ c.plan_over.result
      c.in-Ok-read_definition_file.ensures.stays c.in-Ok-read_definition_file.ensures.count (alone (λ rose. rose))
      c.plan_over.ensures.reads.cause;
}

pub returns-clause-panel : goal.returns-clause-panel
returns-clause-panel g c =
    let said = panel_says (map (λ j. (goal.Judge-dyn g (j.vtable, j.value)).says j.value) c.args.judges.now.items) in
    hears_as c.args.judges.now c.plan_over.new.judges c.plan_over.result
    (planned_asks g.H.Hashing.digest_of said (g.A.Source.known c.args.media.now) (g.B.Source.known c.args.definition.now) c.in-Ok.read
    (λ file known. let media = c.in-Ok.ensures.stage file (c.requires.found file known) in (media.0, media.2)) c.in-Ok-read_definition_file.definition (λ bytes known. c.in-Ok-read_definition_file.ensures.stage bytes known)) c.plan_over.ensures.panel
