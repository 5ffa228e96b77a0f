use Rattle.std.proofs.Common.{refl}
use Rattle.c2_calls_spec.proofs.SourceLemmas.{reads_nothing}
use Rattle.c2_new_front_spec.specs.Outcomes.{IsMadeOver}
use Rattle.c2_new_front_spec.specs.Outcomes as front
use Rattle.c2_build_refusals.proofs.Outside.{outside_map, quiet_cause}
use Rattle.c2_build_front.proofs.Stages.{media_error, refused_first}
use Rattle.c2_build_front.specs.Answers.{prepare_effects}
use Rattle.c2_build_front.proofs.ready.Builder.ready_in.Goals as goal

-- ---- the store is refused

pub returns-in-Err-clause-prepared : goal.returns-in-Err-clause-prepared
returns-in-Err-clause-prepared g c = record {
  ready =
      λ file known bytes due message due'. outside_map c.in-Err.error (λ s. refused_first (front.IsMediaStage file) (IsMadeOver g.H.Hashing.digest_of file bytes message) c.in-Err.error (media_error file c.in-Err.error s)) (c.in-Err.ensures.stage file (c.requires.found file known));
  texts = λ bytes known. tt;
  can_write = tt;
}

pub returns-in-Err-clause-not_due : goal.returns-in-Err-clause-not_due
returns-in-Err-clause-not_due g c =
    record
    { definition_unread = λ file known refused. refl; message_unread_first = λ file known refused. refl; message_unread = λ bytes known refused. refl }

pub returns-in-Err-clause-sources : goal.returns-in-Err-clause-sources
returns-in-Err-clause-sources g c = record {
  media = reads_nothing _ _ _ _ c.args.media.now _ (quiet_cause _ prepare_effects _ _ _ refl c.in-Err.ensures.quiet);
  definition =
      reads_nothing _ _ _ _ c.args.definition.now _ (quiet_cause _ prepare_effects _ _ _ refl c.in-Err.ensures.quiet);
  message =
      reads_nothing _ _ _ _ c.args.signature.now _ (quiet_cause _ prepare_effects _ _ _ refl c.in-Err.ensures.quiet);
}

-- ---- it is read, and then comes what is behind it

pub ready_of-requires-clause-read : goal.ready_of-requires-clause-read
ready_of-requires-clause-read g c = c.in-Ok.ensures.inside (g.A.Source.len c.args.media.now) c.requires.inside

pub ready_of-requires-clause-kind : goal.ready_of-requires-clause-kind
ready_of-requires-clause-kind g c = λ file known.
    let media = c.in-Ok.ensures.stage file (c.requires.found file known) in
    (media.0, media.2)

pub returns-clause-prepared : goal.returns-clause-prepared
returns-clause-prepared g c = c.ready_of.ensures.prepared

pub returns-clause-not_due : goal.returns-clause-not_due
returns-clause-not_due g c = c.ready_of.ensures.not_due

pub returns-clause-sources : goal.returns-clause-sources
returns-clause-sources g c = c.ready_of.ensures.sources
