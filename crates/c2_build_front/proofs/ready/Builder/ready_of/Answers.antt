use Rattle.std.proofs.Common.{inl, inr, refl}
use Rattle.std.specs.Prelude.{Err}
use Rattle.c2_calls_spec.proofs.SourceLemmas.{stays_as_it_was}
use Rattle.c2_new_front_spec.specs.Outcomes.{IsMadeOver}
use Rattle.c2_new_front_spec.specs.Outcomes as front
use Rattle.c2_build_refusals.proofs.Inputs.{not_both_definitions, not_both_media, told_where_both, told_where_due}
use Rattle.c2_build_refusals.proofs.Outside.{alone, on_any, outside_map, plain_cause, reads_among, reads_earlier}
use Rattle.c2_build_front.proofs.Drafts.{ready_next}
use Rattle.c2_build_front.proofs.Sized.{has_size}
use Rattle.c2_build_front.proofs.Stages.{defined_as, definition_error, opened_as, refused_first, refused_next}
use Rattle.c2_build_front.specs.Answers.{prepare_effects}
use Rattle.c2_build_front.proofs.ready.Builder.ready_of.Goals as goal

-- ---- the definition is refused

pub returns-in-Err-clause-prepared : goal.returns-in-Err-clause-prepared
returns-in-Err-clause-prepared g c = record {
  ready = λ file known bytes due message due'.
      let media = c.requires.kind file known in
      let told = told_where_due due (λ refused. not_both_media file media.0 media.1.stage refused) in
      let e = c.in-Err.error in
      outside_map e (λ s. refused_next (front.IsMediaStage file) (IsMadeOver g.H.Hashing.digest_of file bytes message) media.1.stage.0 e (opened_as file media.0 media.1.stage)
      (refused_first (front.IsDefinitionStage bytes) _ e (definition_error bytes e s))) (c.in-Err.ensures.stage bytes told);
  texts = λ bytes known. tt;
  can_write = tt;
}

pub returns-in-Err-clause-not_due : goal.returns-in-Err-clause-not_due
returns-in-Err-clause-not_due g c = record {
  definition_unread = λ file known refused. let media = c.requires.kind file known in not_both_media file media.0 media.1.stage refused;
  message_unread_first = λ file known refused. refl;
  message_unread = λ bytes known refused. refl;
}

pub returns-in-Err-clause-sources : goal.returns-in-Err-clause-sources
returns-in-Err-clause-sources g c = record {
  media =
      reads_earlier prepare_effects c.args.media.now c.args.media.now _ _ (Err c.in-Err.error)
      (stays_as_it_was _ _ _ c.args.media.now) refl (alone inl) (plain_cause _ prepare_effects _ _ _ c.in-Err.ensures.cause);
  definition =
      record
      { stays = c.in-Err.ensures.stays; quiet = tt; cause = plain_cause _ prepare_effects _ _ _ c.in-Err.ensures.cause };
  message =
      reads_earlier prepare_effects c.args.signature.now c.args.signature.now _ _ (Err c.in-Err.error)
      (stays_as_it_was _ _ _ c.args.signature.now) refl (alone inr)
      (plain_cause _ prepare_effects _ _ _ c.in-Err.ensures.cause);
}

-- ---- it is read, and then comes what is behind it

pub returns-clause-prepared : goal.returns-clause-prepared
returns-clause-prepared g c = record {
  ready = λ file known bytes due message due'.
      let d = c.in-Ok.definition in
      let r = c.ready_signed.result in
      let media = c.requires.kind file known in
      let told = told_where_due due (λ refused. not_both_media file media.0 media.1.stage refused) in
      let stage = c.in-Ok.ensures.stage bytes told in
      let spoken =
      told_where_both due' (λ refused. not_both_media file media.0 media.1.stage refused)
      (λ refused. not_both_definitions bytes d stage refused) in
      let over =
      c.ready_signed.ensures.ready file known media.0 media.1 (has_size bytes d stage) message spoken in
      ready_next file (front.IsMediaStage file) (IsMadeOver g.H.Hashing.digest_of file bytes message) media.1.stage.0 r
      (opened_as file media.0 media.1.stage)
      (ready_next file (front.IsDefinitionStage bytes) _ d r (defined_as bytes d stage) over);
  texts = λ bytes known. on_any c.ready_signed.result (c.in-Ok.ensures.texts bytes known);
  can_write = c.ready_signed.ensures.can_write;
}

pub returns-clause-not_due : goal.returns-clause-not_due
returns-clause-not_due g c = record {
  definition_unread = λ file known refused. let media = c.requires.kind file known in not_both_media file media.0 media.1.stage refused;
  message_unread_first = λ file known refused. let media = c.requires.kind file known in not_both_media file media.0 media.1.stage refused;
  message_unread =
      λ bytes known refused. not_both_definitions bytes c.in-Ok.definition (c.in-Ok.ensures.stage bytes known) refused;
}

pub returns-clause-sources : goal.returns-clause-sources
returns-clause-sources g c = record {
  media =
      reads_among prepare_effects c.args.media.now c.ready_signed.new.media c.ready_signed.result inr
      c.ready_signed.ensures.media;
  definition =
      reads_earlier prepare_effects c.args.definition.now c.read_definition_file.new.file _ _ c.ready_signed.result
      c.in-Ok.ensures.stays c.in-Ok.ensures.count (λ rose. rose) c.ready_signed.ensures.media.cause;
  message =
      reads_among prepare_effects c.args.signature.now c.ready_signed.new.signature c.ready_signed.result inl
      c.ready_signed.ensures.message;
}
