use Rattle.std.proofs.Common.{inl, refl, subst, sym, ◌∙◌, ℕ}
use Rattle.std.specs.Prelude.{Err, IfOk}
use Rattle.c2_calls_spec.proofs.SourceLemmas.{stays_as_it_was}
use Rattle.c2_container.specs.Contained.{IsWithin}
use Rattle.c2_new_front_spec.specs.Outcomes.{IsMadeOver}
use Rattle.c2_new_front_spec.specs.Outcomes as front
use Rattle.c2_build_refusals.proofs.Outside.{alone, outside_map, plain_cause, reads_earlier}
use Rattle.c2_build_front.proofs.Stages.{media_error, refused_first}
use Rattle.c2_build_front.specs.Answers.{prepare_effects}
use Rattle.c2_build_front.specs.Steps.{CanWrite}
use Rattle.c2_build_endings.proofs.SourcesLemmas.{signed_next}
use Rattle.c2_build_front.proofs.ready.prepare.Goals as goal

-- ---- the container is refused

pub returns-in-Err-clause-prepared : goal.returns-in-Err-clause-prepared
returns-in-Err-clause-prepared g c = record {
  ready =
      λ file known bytes due message due'. outside_map c.in-Err.error (λ s. refused_first (front.IsMediaStage file) (IsMadeOver g.H.Hashing.digest_of file bytes message) c.in-Err.error (media_error file c.in-Err.error s)) (c.in-Err.ensures.refused file known);
  texts = λ bytes known. tt;
  can_write = tt;
}

pub returns-in-Err-clause-not_due : goal.returns-in-Err-clause-not_due
returns-in-Err-clause-not_due g c =
    record
    { definition_unread = λ file known refused. refl; message_unread_first = λ file known refused. refl; message_unread = λ bytes known refused. refl }

pub returns-in-Err-clause-sources : goal.returns-in-Err-clause-sources
returns-in-Err-clause-sources g c = record {
  media =
      record
      { stays = c.in-Err.ensures.reads.stays; quiet = tt; cause = plain_cause _ prepare_effects _ _ _ c.in-Err.ensures.reads.cause };
  definition =
      reads_earlier prepare_effects c.args.definition.now c.args.definition.now _ _ (Err c.in-Err.error)
      (stays_as_it_was _ _ _ c.args.definition.now) refl (alone inl)
      (plain_cause _ prepare_effects _ _ _ c.in-Err.ensures.reads.cause);
  message =
      reads_earlier prepare_effects c.args.signature.now c.args.signature.now _ _ (Err c.in-Err.error)
      (stays_as_it_was _ _ _ c.args.signature.now) refl (alone inl)
      (plain_cause _ prepare_effects _ _ _ c.in-Err.ensures.reads.cause);
}

-- ---- what comes behind it

pub ready_in-requires-clause-inside : goal.ready_in-requires-clause-inside
ready_in-requires-clause-inside g c =
    subst (λ (n : ℕ). IsWithin n c.in-Ok.file) (sym c.in-Ok.ensures.reads.stays.same_len) c.in-Ok.ensures.inside

pub ready_in-requires-clause-found : goal.ready_in-requires-clause-found
ready_in-requires-clause-found g c =
    λ file known. c.in-Ok.ensures.found file (sym c.in-Ok.ensures.reads.stays.same_bytes ∙ known)

pub returns-clause-prepared : goal.returns-clause-prepared
returns-clause-prepared g c = record {
  ready =
      λ file known bytes due message due'. c.ready_in.ensures.prepared.ready file (c.in-Ok.ensures.reads.stays.same_bytes ∙ known) bytes due message due';
  texts = c.ready_in.ensures.prepared.texts;
  can_write =
      subst (λ (n : ℕ). IfOk c.ready_in.result (CanWrite n)) c.in-Ok.ensures.reads.stays.same_len
      c.ready_in.ensures.prepared.can_write;
}

pub returns-clause-not_due : goal.returns-clause-not_due
returns-clause-not_due g c = record {
  definition_unread =
      λ file known refused. c.ready_in.ensures.not_due.definition_unread file (c.in-Ok.ensures.reads.stays.same_bytes ∙ known) refused;
  message_unread_first =
      λ file known refused. c.ready_in.ensures.not_due.message_unread_first file (c.in-Ok.ensures.reads.stays.same_bytes ∙ known) refused;
  message_unread = c.ready_in.ensures.not_due.message_unread;
}

pub returns-clause-sources : goal.returns-clause-sources
returns-clause-sources g c =
    signed_next c.args.media.now c.open_media.new.media c.ready_in.new.media _ c.in-Ok.file c.ready_in.result c.in-Ok.ensures.reads _
    c.ready_in.ensures.sources
