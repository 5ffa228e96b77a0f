use Rattle.std.proofs.Common.{List, Option, inl, map, refl, subst, sym, ℕ, ◌∙◌}
use Rattle.std.specs.Prelude.{Err}
use Rattle.std.proofs.lemmas.Result.{IfOk-weaker}
use Rattle.c2_spec.specs.Judges.Panel.{panel_says}
use Rattle.c2_calls_spec.proofs.SourceLemmas.{stays_as_it_was}
use Rattle.c2_container.specs.Contained.{IsWithin}
use Rattle.c2_collect_spec.specs.Outcomes as collect
use Rattle.c2_build_refusals.specs.Kinds.{no_effects}
use Rattle.c2_build_refusals.proofs.Judged.{hears_none, hears_told, read_unheard}
use Rattle.c2_build_refusals.proofs.Outside.{alone, outside_map, plain_cause, reads_earlier}
use Rattle.c2_build_collect.specs.Answers.{AsksEmbedded, prepare_effects}
use Rattle.c2_build_drafts.specs.Drafts.{FitsMedia}
use Rattle.c2_build_collect.proofs.Stages.{media_error, refused_first}
use Rattle.c2_build_collect.proofs.Unasked.{refused_embed}
use Rattle.c2_build_collect.proofs.Leaving.{pair_next}
use Rattle.c2_build_collect.proofs.ready.Maker.draft.Goals as goal

-- ---- the container is refused

pub returns-in-Err-clause-build : goal.returns-in-Err-clause-build
returns-in-Err-clause-build g c = record {
  build =
      λ file known bytes due signed due' others undue. outside_map c.in-Err.error (λ s. refused_first (collect.IsMediaStage file) _ c.in-Err.error (media_error file c.in-Err.error s)) (c.in-Err.ensures.refused file known);
  texts = λ bytes known. tt;
  fits = tt;
}

pub returns-in-Err-clause-not_due : goal.returns-in-Err-clause-not_due
returns-in-Err-clause-not_due g c = record {
  inputs =
      record
      { definition_unread = λ file known refused. refl; message_unread_first = λ file known refused. refl; message_unread = λ bytes known refused. refl };
  other_unread_first = λ file known refused. refl;
  other_unread_then = λ bytes known refused. refl;
  other_unread = λ refused. refl;
}

pub returns-in-Err-clause-sources : goal.returns-in-Err-clause-sources
returns-in-Err-clause-sources g c = record {
  media =
      record
      { stays = c.in-Err.ensures.reads.stays; quiet = tt; cause = plain_cause _ prepare_effects _ _ _ c.in-Err.ensures.reads.cause };
  definition =
      reads_earlier prepare_effects c.args.definition.now c.args.definition.now _ _ (Err c.in-Err.error)
      (stays_as_it_was _ _ _ c.args.definition.now) refl (alone inl)
      (plain_cause _ prepare_effects _ _ _ c.in-Err.ensures.reads.cause);
  message =
      reads_earlier prepare_effects c.args.signature.now c.args.signature.now _ _ (Err c.in-Err.error)
      (stays_as_it_was _ _ _ c.args.signature.now) refl (alone inl)
      (plain_cause _ prepare_effects _ _ _ c.in-Err.ensures.reads.cause);
  other =
      reads_earlier prepare_effects c.args.other.now c.args.other.now _ _ (Err c.in-Err.error)
      (stays_as_it_was _ _ _ c.args.other.now) refl (alone inl)
      (plain_cause _ prepare_effects _ _ _ c.in-Err.ensures.reads.cause);
}

pub returns-in-Err-clause-panel : goal.returns-in-Err-clause-panel
returns-in-Err-clause-panel g c =
    let said = panel_says (map (λ j. (goal.Judge-dyn g (j.vtable, j.value)).says j.value) c.args.judges.now.items) in
    hears_none c.args.judges.now c.in-Err.error (read_unheard no_effects _ _ _ c.in-Err.ensures.reads.cause)
    (refused_embed g.H.Hashing.digest_of said (g.A.Source.known c.args.media.now) (g.B.Source.known c.args.definition.now) (g.C.Source.known c.args.signature.now) (g.D.Source.known c.args.other.now) c.in-Err.error (λ file known. c.in-Err.ensures.refused file known))

-- ---- what comes behind it

pub draft-requires : goal.draft-requires
draft-requires g c = record {
  inside = subst (λ (n : ℕ). IsWithin n c.in-Ok.file) (sym c.in-Ok.ensures.reads.stays.same_len) c.in-Ok.ensures.inside;
  found = λ file known. c.in-Ok.ensures.found file (sym c.in-Ok.ensures.reads.stays.same_bytes ∙ known);
}

pub returns-clause-build : goal.returns-clause-build
returns-clause-build g c = record {
  build =
      λ file known bytes due signed due' others undue. c.draft.ensures.build.build file (c.in-Ok.ensures.reads.stays.same_bytes ∙ known) bytes due signed due' others undue;
  texts = c.draft.ensures.build.texts;
  fits =
      IfOk-weaker c.draft.result _ _
      (λ b fits. subst (λ (n : ℕ). FitsMedia g.H.Hashing.digest_of n b) c.in-Ok.ensures.reads.stays.same_len fits)
      c.draft.ensures.build.fits;
}

pub returns-clause-not_due : goal.returns-clause-not_due
returns-clause-not_due g c =
    let due = c.draft.ensures.not_due in
    record {
      inputs = record {
        definition_unread =
            λ file known refused. due.inputs.definition_unread file (c.in-Ok.ensures.reads.stays.same_bytes ∙ known) refused;
        message_unread_first =
            λ file known refused. due.inputs.message_unread_first file (c.in-Ok.ensures.reads.stays.same_bytes ∙ known) refused;
        message_unread = due.inputs.message_unread;
      };
      other_unread_first =
          λ file known refused. due.other_unread_first file (c.in-Ok.ensures.reads.stays.same_bytes ∙ known) refused;
      other_unread_then = due.other_unread_then;
      other_unread = due.other_unread;
    }

pub returns-clause-sources : goal.returns-clause-sources
returns-clause-sources g c =
    pair_next c.args.media.now c.open_media.new.media c.draft.new.media _ _ c.in-Ok.file c.draft.result c.in-Ok.ensures.reads _
    c.draft.ensures.sources

pub returns-clause-panel : goal.returns-clause-panel
returns-clause-panel g c =
    hears_told
    (λ (known : Option (List ℕ)). AsksEmbedded g.H.Hashing.digest_of known (g.B.Source.known c.args.definition.now) (g.C.Source.known c.args.signature.now) (g.D.Source.known c.args.other.now))
    (g.A.Source.known c.args.media.now) (g.A.Source.known c.open_media.new.media) c.args.judges.now
    c.draft.new.judges
    c.draft.result c.in-Ok.ensures.reads.stays.same_bytes c.draft.ensures.panel
