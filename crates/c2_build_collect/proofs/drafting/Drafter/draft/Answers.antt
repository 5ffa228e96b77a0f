use Rattle.std.proofs.Common.{inl, inr, map, refl, subst, sym}
use Rattle.std.specs.Prelude.{Err, Result}
use Rattle.c2_spec.specs.Judges.Panel.{panel_says}
use Rattle.c2_calls_spec.proofs.SourceLemmas.{stays_as_it_was}
use Rattle.c2_collect_spec.specs.Outcomes as collect
use Rattle.c2_build_collect_base.specs.Grounds.{opening_of}
use Rattle.c2_build_refusals.specs.Kinds.{no_effects}
use Rattle.c2_build_refusals.specs.declared.error.BuildError.{BuildError}
use Rattle.c2_build_refusals.proofs.Inputs.{not_both_media}
use Rattle.c2_build_refusals.proofs.Judged.{hears_none, read_unheard}
use Rattle.c2_build_refusals.proofs.Outside.{alone, outside_map, plain_cause, reads_among, reads_earlier}
use Rattle.c2_build_drafts.specs.declared.ready.DraftedBuild.{DraftedBuild}
use Rattle.c2_build_collect.specs.Answers.{prepare_effects}
use Rattle.c2_build_collect.specs.Steps.{IsBuildDrafted}
use Rattle.c2_build_collect.proofs.Causes.{first_or_third}
use Rattle.c2_build_collect.proofs.Due.{definition_told}
use Rattle.c2_build_collect.proofs.Filled.{hears_built, pair_built}
use Rattle.c2_build_collect.proofs.Stages.{definition_error, opened_as, refused_first, refused_next}
use Rattle.c2_build_collect.proofs.Unasked.{undefined_embed}
use Rattle.c2_build_collect.proofs.drafting.Drafter.draft.Goals as goal

-- ---- the definition is refused

pub returns-in-Err-clause-build : goal.returns-in-Err-clause-build
returns-in-Err-clause-build g c = record {
  build = λ file known bytes due signed due' others undue.
      let said = panel_says (map (λ j. (goal.Judge-dyn g (j.vtable, j.value)).says j.value) c.args.judges.now.items) in
      let e = c.in-Err.error in
      let media = c.requires.kind file known in
      let told =
      definition_told g.H.Hashing.digest_of said file media.0 media.1.stage
      (g.B.Source.known c.args.definition.now) bytes due in
      outside_map e (λ s. refused_next (collect.IsMediaStage file) _ (opening_of media.0) e (opened_as file media.0 media.1.stage)
      (refused_first (collect.IsDefinitionStage bytes) _ e (definition_error bytes e s))) (c.in-Err.ensures.stage bytes told);
  texts = λ bytes known. tt;
  fits = tt;
}

pub returns-in-Err-clause-not_due : goal.returns-in-Err-clause-not_due
returns-in-Err-clause-not_due g c = record {
  inputs = record {
    definition_unread = λ file known refused. let media = c.requires.kind file known in not_both_media file media.0 media.1.stage refused;
    message_unread_first = λ file known refused. refl;
    message_unread = λ bytes known refused. refl;
  };
  other_unread_first = λ file known refused. refl;
  other_unread_then = λ bytes known refused. refl;
  other_unread = λ refused. refl;
}

pub returns-in-Err-clause-sources : goal.returns-in-Err-clause-sources
returns-in-Err-clause-sources g c = record {
  media =
      reads_earlier prepare_effects c.args.media.now c.args.media.now _ _ (Err c.in-Err.error)
      (stays_as_it_was _ _ _ c.args.media.now) refl (alone inl)
      (plain_cause _ prepare_effects _ _ _ c.in-Err.ensures.cause);
  definition =
      record
      { stays = c.in-Err.ensures.stays; quiet = tt; cause = plain_cause _ prepare_effects _ _ _ c.in-Err.ensures.cause };
  message =
      reads_earlier prepare_effects c.args.signature.now c.args.signature.now _ _
      (Err c.in-Err.error) (stays_as_it_was _ _ _ c.args.signature.now) refl
      (alone (λ rose. inr (inl rose)))
      (plain_cause _ prepare_effects _ _ _ c.in-Err.ensures.cause);
  other =
      reads_earlier prepare_effects c.args.other.now c.args.other.now _ _ (Err c.in-Err.error)
      (stays_as_it_was _ _ _ c.args.other.now) refl (alone (λ rose. inr (inl rose)))
      (plain_cause _ prepare_effects _ _ _ c.in-Err.ensures.cause);
}

pub returns-in-Err-clause-panel : goal.returns-in-Err-clause-panel
returns-in-Err-clause-panel g c =
    let said = panel_says (map (λ j. (goal.Judge-dyn g (j.vtable, j.value)).says j.value) c.args.judges.now.items) in
    hears_none c.args.judges.now c.in-Err.error (read_unheard no_effects _ _ _ c.in-Err.ensures.cause)
    (undefined_embed g.H.Hashing.digest_of said (g.A.Source.known c.args.media.now) (g.B.Source.known c.args.definition.now) (g.C.Source.known c.args.signature.now) (g.D.Source.known c.args.other.now) c.args.self.now.file.now
    (λ file known. c.requires.kind file known) c.in-Err.error (λ bytes known. c.in-Err.ensures.stage bytes known))

-- ---- what comes behind it

pub with_signature-filled-requires-clause-read : goal.with_signature-filled-requires-clause-read
with_signature-filled-requires-clause-read g c = record { read = c.requires.inside; formed = c.in-Ok.ensures.formed }

pub returns-clause-build : goal.returns-clause-build
returns-clause-build g c =
    let said = panel_says (map (λ j. (goal.Judge-dyn g (j.vtable, j.value)).says j.value) c.args.judges.now.items) in
    subst
    (λ (r : Result DraftedBuild BuildError). IsBuildDrafted g.H.Hashing.digest_of said (g.A.Source.known c.args.media.now) (g.B.Source.known c.args.definition.now) (g.C.Source.known c.args.signature.now) (g.D.Source.known c.args.other.now) (g.A.Source.len c.args.media.now) r)
    (sym c.built.ensures)
    (c.with_signature-filled.ensures.build (g.B.Source.known c.args.definition.now)
    (record { stage = λ bytes known. c.in-Ok.ensures.stage bytes known; texts = λ bytes known. c.in-Ok.ensures.texts bytes known }))

pub returns-clause-not_due : goal.returns-clause-not_due
returns-clause-not_due g c =
    let left =
    c.with_signature-filled.ensures.not_due (g.B.Source.known c.args.definition.now)
    (record { stage = λ bytes known. c.in-Ok.ensures.stage bytes known; texts = λ bytes known. c.in-Ok.ensures.texts bytes known }) in
    record {
      inputs = record {
        definition_unread = λ file known refused. let media = c.requires.kind file known in not_both_media file media.0 media.1.stage refused;
        message_unread_first = left.inputs.message_unread_first;
        message_unread = left.inputs.message_unread;
      };
      other_unread_first = left.other_unread_first;
      other_unread_then = left.other_unread_then;
      other_unread = left.other_unread;
    }

pub returns-clause-sources : goal.returns-clause-sources
returns-clause-sources g c =
    let r = c.with_signature-filled.result in
    pair_built c.in-Ok.definition r c.built.result c.built.ensures (record {
      media =
          reads_among prepare_effects c.args.media.now c.with_signature-filled.new.media r inr
          c.with_signature-filled.ensures.media;
      definition =
          reads_earlier prepare_effects c.args.definition.now c.read_definition_file.new.file _ _ r
          c.in-Ok.ensures.stays c.in-Ok.ensures.count (λ failed. failed) c.with_signature-filled.ensures.media.cause;
      message =
          reads_among prepare_effects c.args.signature.now c.with_signature-filled.new.signature r first_or_third
          c.with_signature-filled.ensures.message;
      other =
          reads_among prepare_effects c.args.other.now c.with_signature-filled.new.other r first_or_third
          c.with_signature-filled.ensures.other;
    })

pub returns-clause-panel : goal.returns-clause-panel
returns-clause-panel g c =
    hears_built c.args.judges.now c.with_signature-filled.new.judges c.in-Ok.definition c.with_signature-filled.result
    c.built.result c.built.ensures
    (c.with_signature-filled.ensures.panel (g.B.Source.known c.args.definition.now)
    (record { stage = λ bytes known. c.in-Ok.ensures.stage bytes known; texts = λ bytes known. c.in-Ok.ensures.texts bytes known }))
