use Rattle.std.proofs.Common.{inl, inr, map, refl}
use Rattle.std.specs.Prelude.{Err}
use Rattle.c2_spec.specs.Judges.Panel.{panel_says}
use Rattle.c2_calls_spec.proofs.SourceLemmas.{stays_as_it_was}
use Rattle.c2_collect_spec.specs.Outcomes as collect
use Rattle.c2_collect_spec.proofs.SomeOutcome.{defined_of}
use Rattle.c2_build_collect_base.specs.Grounds.{ground_effects, opening_of}
use Rattle.c2_build_refusals.specs.Kinds.{no_effects}
use Rattle.c2_build_refusals.specs.Stages.{IsDefinitionRefused}
use Rattle.c2_build_refusals.proofs.Inputs.{not_both_media}
use Rattle.c2_build_refusals.proofs.Judged.{hears_as, hears_none, read_unheard}
use Rattle.c2_build_refusals.proofs.Outside.{alone, outside_map, plain_cause, reads_among, reads_earlier}
use Rattle.c2_build_collect.proofs.Due.{definition_told, not_accepted, other_told, undefined}
use Rattle.c2_build_collect.proofs.Stages.{answer_next, defined_as, definition_error, opened_as, refused_first, refused_next}
use Rattle.c2_build_collect.proofs.Unasked.{planned_asks, undefined_plan}
use Rattle.c2_build_collect.proofs.drafting.Drafter.plan.Goals as goal

-- ---- the definition is refused

pub returns-in-Err-clause-planned : goal.returns-in-Err-clause-planned
returns-in-Err-clause-planned g c = λ file known bytes due others undue.
    let said = panel_says (map (λ j. (goal.Judge-dyn g (j.vtable, j.value)).says j.value) c.args.judges.now.items) in
    let e = c.in-Err.error in
    let media = c.requires.kind file known in
    let told =
    definition_told g.H.Hashing.digest_of said file media.0 media.1.stage
    (g.B.Source.known c.args.definition.now) bytes due in
    outside_map e (λ s. refused_next (collect.IsMediaStage file) _ (opening_of media.0) e (opened_as file media.0 media.1.stage)
    (refused_first (collect.IsDefinitionStage bytes) _ e (definition_error bytes e s))) (c.in-Err.ensures.stage bytes told)

pub returns-in-Err-clause-not_due : goal.returns-in-Err-clause-not_due
returns-in-Err-clause-not_due g c = record {
  definition_unread = λ file known refused. let media = c.requires.kind file known in not_both_media file media.0 media.1.stage refused;
  other_unread_first = λ file known refused. refl;
  other_unread = λ bytes known refused. refl;
}

pub returns-in-Err-clause-sources : goal.returns-in-Err-clause-sources
returns-in-Err-clause-sources g c = record {
  media =
      reads_earlier ground_effects c.args.media.now c.args.media.now _ _ (Err c.in-Err.error)
      (stays_as_it_was _ _ _ c.args.media.now) refl (alone inl)
      (plain_cause _ ground_effects _ _ _ c.in-Err.ensures.cause);
  definition =
      record
      { stays = c.in-Err.ensures.stays; quiet = tt; cause = plain_cause _ ground_effects _ _ _ c.in-Err.ensures.cause };
  other =
      reads_earlier ground_effects c.args.other.now c.args.other.now _ _ (Err c.in-Err.error)
      (stays_as_it_was _ _ _ c.args.other.now) refl (alone inr)
      (plain_cause _ ground_effects _ _ _ c.in-Err.ensures.cause);
}

pub returns-in-Err-clause-panel : goal.returns-in-Err-clause-panel
returns-in-Err-clause-panel g c =
    let said = panel_says (map (λ j. (goal.Judge-dyn g (j.vtable, j.value)).says j.value) c.args.judges.now.items) in
    hears_none c.args.judges.now c.in-Err.error (read_unheard no_effects _ _ _ c.in-Err.ensures.cause)
    (undefined_plan g.H.Hashing.digest_of said (g.A.Source.known c.args.media.now) (g.B.Source.known c.args.definition.now) (g.D.Source.known c.args.other.now) c.args.self.now.file.now
    (λ file known. c.requires.kind file known) c.in-Err.error (λ bytes known. c.in-Err.ensures.stage bytes known))

-- ---- what comes behind the media and the definition

pub planned-requires : goal.planned-requires
planned-requires g c =
    record { read = c.requires.inside; formed = c.in-Ok.ensures.formed }

pub returns-clause-planned : goal.returns-clause-planned
returns-clause-planned g c = λ file known bytes due others undue.
    let said = panel_says (map (λ j. (goal.Judge-dyn g (j.vtable, j.value)).says j.value) c.args.judges.now.items) in
    let hash = g.H.Hashing.digest_of in
    let d = c.in-Ok.definition in
    let media = c.requires.kind file known in
    let told =
    definition_told hash said file media.0 media.1.stage (g.B.Source.known c.args.definition.now) bytes due in
    let stage = c.in-Ok.ensures.stage bytes told in
    let as_read = defined_as bytes d stage in
    let own =
    other_told hash said file media.0 media.1.stage {NotDue = IsDefinitionRefused bytes}
    (g.D.Source.known c.args.other.now) others (undefined d bytes stage) undue in
    answer_next (collect.IsMediaStage file) _ (opening_of media.0) c.planned.result
    (opened_as file media.0 media.1.stage)
    (answer_next (collect.IsDefinitionStage bytes) _ d c.planned.result as_read (c.planned.ensures.planned (bytes, defined_of bytes d as_read) file known media.0 media.1 others own))

pub returns-clause-not_due : goal.returns-clause-not_due
returns-clause-not_due g c =
    let said = panel_says (map (λ j. (goal.Judge-dyn g (j.vtable, j.value)).says j.value) c.args.judges.now.items) in
    let hash = g.H.Hashing.digest_of in
    record {
      definition_unread = λ file known refused. let media = c.requires.kind file known in not_both_media file media.0 media.1.stage refused;
      other_unread_first = λ file known refused. let media = c.requires.kind file known in
          c.planned.ensures.not_due file known media.0 media.1 (not_accepted hash said file media.0 media.1.stage refused);
      other_unread =
          λ bytes known refused. absurd (undefined c.in-Ok.definition bytes (c.in-Ok.ensures.stage bytes known) refused);
    }

pub returns-clause-sources : goal.returns-clause-sources
returns-clause-sources g c = record {
  media = reads_among ground_effects c.args.media.now c.planned.new.media c.planned.result inr c.planned.ensures.media;
  definition =
      reads_earlier ground_effects c.args.definition.now c.read_definition_file.new.file _ _ c.planned.result
      c.in-Ok.ensures.stays c.in-Ok.ensures.count (λ failed. failed)
      c.planned.ensures.media.cause;
  other = reads_among ground_effects c.args.other.now c.planned.new.other c.planned.result inl c.planned.ensures.other;
}

pub returns-clause-panel : goal.returns-clause-panel
returns-clause-panel g c =
    let said = panel_says (map (λ j. (goal.Judge-dyn g (j.vtable, j.value)).says j.value) c.args.judges.now.items) in
    hears_as c.args.judges.now c.planned.new.judges c.planned.result
    (planned_asks g.H.Hashing.digest_of said (g.A.Source.known c.args.media.now) (g.B.Source.known c.args.definition.now) (g.D.Source.known c.args.other.now) c.args.self.now.file.now
    (λ file known. c.requires.kind file known) c.in-Ok.definition (λ bytes known. c.in-Ok.ensures.stage bytes known)) c.planned.ensures.panel
