use Rattle.std.proofs.Common.{inl, inr, map, refl}
use Rattle.std.specs.Prelude.{Err, Ok, Result}
use Rattle.c2_lemmas.proofs.Stages.{stage_value}
use Rattle.c2_definition.specs.DefinitionFile.{IsDefinition}
use Rattle.c2_build_refusals.specs.declared.error.BuildError.TheVariants.{BadDefinition}
use Rattle.c2_spec.specs.Judges.Panel.{panel_says}
use Rattle.c2_calls_spec.proofs.SourceLemmas.{reads_then, stays_as_it_was}
use Rattle.c2_build_drafts.specs.declared.ready.DraftedBuild.{DraftedBuild}
use Rattle.c2_build_refusals.specs.declared.error.BuildError.{BuildError}
use Rattle.c2_build_refusals.specs.Kinds.{kind_of, no_effects}
use Rattle.c2_build_refusals.specs.Stages.{IsDefinitionStage, IsMediaStage}
use Rattle.c2_build_refusals.proofs.Outside.{alone, among_sources, plain_cause, reads_earlier}
use Rattle.c2_build_refusals.proofs.Stages.{comes_first, comes_next}
use Rattle.c2_build_refusals.proofs.Judged.{hears_behind, hears_failed, hears_none, read_unheard}
use Rattle.c2_build_refusals.proofs.Inputs.{not_both_definitions, not_both_media, told_where_both, told_where_due}
use Rattle.c2_build_plain.proofs.NewStores.{build_next}
use Rattle.c2_build_plain.proofs.Unasked.{undefined_embed}
use Rattle.c2_build_plain.specs.Answers.{prepare_effects}
use Rattle.c2_build_plain.specs.Steps.{IsEmbeddedSigned, build_of}
use Rattle.c2_build_plain.proofs.ready.Builder.draft_of.Goals as goal

-- ---- the definition is refused

pub returns-in-Err-clause-build : goal.returns-in-Err-clause-build
returns-in-Err-clause-build g c = record {
  build = λ file known bytes due message due'.
      let media = c.requires.kind file known in
      let told = told_where_due due (λ refused. not_both_media file media.0 media.1.stage refused) in
      comes_next (IsMediaStage file) _ media.0 (Err c.in-Err.error) media.1.stage
      (comes_first (IsDefinitionStage bytes) _ c.in-Err.error (c.in-Err.ensures.stage bytes told));
  texts = λ bytes known. tt;
  fits = tt;
}

pub returns-in-Err-clause-not_due : goal.returns-in-Err-clause-not_due
returns-in-Err-clause-not_due g c = record {
  definition_unread = λ file known refused. let media = c.requires.kind file known in not_both_media file media.0 media.1.stage refused;
  message_unread_first = λ file known refused. refl;
  message_unread = λ bytes known refused. refl;
}

pub returns-in-Err-clause-sources : goal.returns-in-Err-clause-sources
returns-in-Err-clause-sources g c = record {
  media =
      reads_earlier prepare_effects c.args.media.now c.args.media.now _ _ (Err c.in-Err.error)
      (stays_as_it_was _ _ _ c.args.media.now) refl (alone inl) (plain_cause _ prepare_effects _ _ _ c.in-Err.ensures.cause);
  definition =
      record
      { stays = c.in-Err.ensures.stays; quiet = tt; cause = plain_cause _ prepare_effects _ _ _ c.in-Err.ensures.cause };
  message =
      reads_earlier prepare_effects c.args.signature.now c.args.signature.now _ _ (Err c.in-Err.error)
      (stays_as_it_was _ _ _ c.args.signature.now) refl (alone inr)
      (plain_cause _ prepare_effects _ _ _ c.in-Err.ensures.cause);
}

pub returns-in-Err-clause-panel : goal.returns-in-Err-clause-panel
returns-in-Err-clause-panel g c =
    let said = panel_says (map (λ j. (goal.Judge-dyn g (j.vtable, j.value)).says j.value) c.args.judges.now.items) in
    hears_none c.args.judges.now c.in-Err.error (read_unheard no_effects _ _ _ c.in-Err.ensures.cause)
    (undefined_embed g.H.Hashing.digest_of said (g.A.Source.known c.args.media.now) (g.B.Source.known c.args.definition.now) (g.C.Source.known c.args.signature.now) c.args.file.now
    (λ file known. c.requires.kind file known) c.in-Err.error (λ bytes known. c.in-Err.ensures.stage bytes known))

-- ---- it is read, and what is behind it is drafted

pub returns-in-Ok-draft_signed-clause-build : goal.returns-in-Ok-draft_signed-clause-build
returns-in-Ok-draft_signed-clause-build g c = record {
  build = λ file known bytes due message due'.
      let said = panel_says (map (λ j. (goal.Judge-dyn g (j.vtable, j.value)).says j.value) c.args.judges.now.items) in
      let hash = g.H.Hashing.digest_of in
      let d = c.in-Ok.definition in
      let r : Result DraftedBuild BuildError = Ok (build_of d c.in-Ok-draft_signed.draft) in
      let media = c.requires.kind file known in
      let told = told_where_due due (λ refused. not_both_media file media.0 media.1.stage refused) in
      let read = c.in-Ok.ensures.stage bytes told in
      let spoken =
      told_where_both due' (λ refused. not_both_media file media.0 media.1.stage refused)
      (λ refused. not_both_definitions bytes d read refused) in
      build_next hash file (IsMediaStage file) _ media.0 r media.1.stage
      (build_next hash file (IsDefinitionStage bytes) (λ x. IsEmbeddedSigned hash said file media.0 x message) d r read
      (c.in-Ok-draft_signed.ensures.build file known media.0 media.1 (bytes, stage_value BadDefinition (IsDefinition bytes) d read) message spoken));
  texts = λ bytes known. c.in-Ok.ensures.texts bytes known;
  fits = c.in-Ok-draft_signed.ensures.fits;
}

pub returns-in-Ok-draft_signed-clause-not_due : goal.returns-in-Ok-draft_signed-clause-not_due
returns-in-Ok-draft_signed-clause-not_due g c = record {
  definition_unread = λ file known refused. let media = c.requires.kind file known in not_both_media file media.0 media.1.stage refused;
  message_unread_first = λ file known refused. let media = c.requires.kind file known in not_both_media file media.0 media.1.stage refused;
  message_unread =
      λ bytes known refused. not_both_definitions bytes c.in-Ok.definition (c.in-Ok.ensures.stage bytes known) refused;
}

pub returns-in-Ok-draft_signed-clause-sources : goal.returns-in-Ok-draft_signed-clause-sources
returns-in-Ok-draft_signed-clause-sources g c = record {
  media =
      reads_then _ _ _ _ _ c.args.media.now c.draft_signed.new.media c.in-Ok-draft_signed.draft _ tt
      c.in-Ok-draft_signed.ensures.media;
  definition = record { stays = c.in-Ok.ensures.stays; quiet = c.in-Ok.ensures.count; cause = tt };
  message =
      reads_then _ _ _ _ _ c.args.signature.now c.draft_signed.new.signature c.in-Ok-draft_signed.draft _ tt
      c.in-Ok-draft_signed.ensures.message;
}

pub returns-in-Ok-draft_signed-clause-panel : goal.returns-in-Ok-draft_signed-clause-panel
returns-in-Ok-draft_signed-clause-panel g c =
    hears_behind c.args.judges.now c.draft_signed.new.judges c.in-Ok-draft_signed.draft _ tt
    (λ qs asks. record { definition = g.B.Source.known c.args.definition.now; is = λ bytes known. c.in-Ok.ensures.stage bytes known; asks = asks })
    c.in-Ok-draft_signed.ensures.panel

-- ---- what is behind it is refused, or fails

pub returns-in-Err-draft_signed-clause-build : goal.returns-in-Err-draft_signed-clause-build
returns-in-Err-draft_signed-clause-build g c = record {
  build = λ file known bytes due message due'.
      let said = panel_says (map (λ j. (goal.Judge-dyn g (j.vtable, j.value)).says j.value) c.args.judges.now.items) in
      let hash = g.H.Hashing.digest_of in
      let d = c.in-Ok.definition in
      let r : Result DraftedBuild BuildError = Err c.in-Err-draft_signed.error in
      let media = c.requires.kind file known in
      let told = told_where_due due (λ refused. not_both_media file media.0 media.1.stage refused) in
      let read = c.in-Ok.ensures.stage bytes told in
      let spoken =
      told_where_both due' (λ refused. not_both_media file media.0 media.1.stage refused)
      (λ refused. not_both_definitions bytes d read refused) in
      build_next hash file (IsMediaStage file) _ media.0 r media.1.stage
      (build_next hash file (IsDefinitionStage bytes) (λ x. IsEmbeddedSigned hash said file media.0 x message) d r read
      (c.in-Err-draft_signed.ensures.build file known media.0 media.1 (bytes, stage_value BadDefinition (IsDefinition bytes) d read) message spoken));
  texts = λ bytes known. tt;
  fits = tt;
}

pub returns-in-Err-draft_signed-clause-not_due : goal.returns-in-Err-draft_signed-clause-not_due
returns-in-Err-draft_signed-clause-not_due g c = record {
  definition_unread = λ file known refused. let media = c.requires.kind file known in not_both_media file media.0 media.1.stage refused;
  message_unread_first = λ file known refused. let media = c.requires.kind file known in not_both_media file media.0 media.1.stage refused;
  message_unread =
      λ bytes known refused. not_both_definitions bytes c.in-Ok.definition (c.in-Ok.ensures.stage bytes known) refused;
}

pub returns-in-Err-draft_signed-clause-sources : goal.returns-in-Err-draft_signed-clause-sources
returns-in-Err-draft_signed-clause-sources g c =
    let e = c.in-Err-draft_signed.error in
    let below = c.in-Err-draft_signed.ensures in
    record {
      media =
          record
          { stays = below.media.stays; quiet = tt; cause = among_sources prepare_effects _ _ (kind_of e) inr below.media.cause };
      definition =
          reads_earlier prepare_effects c.args.definition.now c.read_definition_file.new.file _ _ (Err e)
          c.in-Ok.ensures.stays c.in-Ok.ensures.count (λ rose. rose) below.media.cause;
      message =
          record
          { stays = below.message.stays; quiet = tt; cause = among_sources prepare_effects _ _ (kind_of e) inl below.message.cause };
    }

pub returns-in-Err-draft_signed-clause-panel : goal.returns-in-Err-draft_signed-clause-panel
returns-in-Err-draft_signed-clause-panel g c =
    hears_failed c.args.judges.now c.draft_signed.new.judges c.in-Err-draft_signed.error
    (λ qs asks. record { definition = g.B.Source.known c.args.definition.now; is = λ bytes known. c.in-Ok.ensures.stage bytes known; asks = asks })
    c.in-Err-draft_signed.ensures.panel
