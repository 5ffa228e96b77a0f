use Rattle.std.proofs.Common.{map, refl}
use Rattle.c2_spec.specs.Judges.Panel.{panel_says}
use Rattle.c2_calls_spec.proofs.SourceLemmas.{reads_nothing}
use Rattle.c2_build_refusals.specs.Stages.{IsMediaStage}
use Rattle.c2_build_refusals.proofs.Outside.{quiet_cause}
use Rattle.c2_build_refusals.proofs.Stages.{comes_first}
use Rattle.c2_build_refusals.proofs.Judged.{hears_none, quiet_unheard}
use Rattle.c2_build_plain.proofs.Unasked.{refused_embed}
use Rattle.c2_build_plain.specs.Answers.{prepare_effects}
use Rattle.c2_build_plain.proofs.ready.Builder.draft_in.Goals as goal

-- ---- the store is refused

pub returns-in-Err-clause-build : goal.returns-in-Err-clause-build
returns-in-Err-clause-build g c = record {
  build =
      λ file known bytes due message due'. comes_first (IsMediaStage file) _ c.in-Err.error (c.in-Err.ensures.stage file (c.requires.found file known));
  texts = λ bytes known. tt;
  fits = tt;
}

pub returns-in-Err-clause-not_due : goal.returns-in-Err-clause-not_due
returns-in-Err-clause-not_due g c =
    record
    { definition_unread = λ file known refused. refl; message_unread_first = λ file known refused. refl; message_unread = λ bytes known refused. refl }

pub returns-in-Err-clause-sources : goal.returns-in-Err-clause-sources
returns-in-Err-clause-sources g c = record {
  media = reads_nothing _ _ _ _ c.args.media.now _ (quiet_cause _ prepare_effects _ _ _ refl c.in-Err.ensures.quiet);
  definition =
      reads_nothing _ _ _ _ c.args.definition.now _ (quiet_cause _ prepare_effects _ _ _ refl c.in-Err.ensures.quiet);
  message =
      reads_nothing _ _ _ _ c.args.signature.now _ (quiet_cause _ prepare_effects _ _ _ refl c.in-Err.ensures.quiet);
}

pub returns-in-Err-clause-panel : goal.returns-in-Err-clause-panel
returns-in-Err-clause-panel g c =
    let said = panel_says (map (λ j. (goal.Judge-dyn g (j.vtable, j.value)).says j.value) c.args.judges.now.items) in
    hears_none c.args.judges.now c.in-Err.error (quiet_unheard _ c.in-Err.ensures.quiet)
    (refused_embed g.H.Hashing.digest_of said (g.A.Source.known c.args.media.now) (g.B.Source.known c.args.definition.now) (g.C.Source.known c.args.signature.now) c.in-Err.error (λ file known. c.in-Err.ensures.stage file (c.requires.found file known)))

-- ---- it is read, and then comes what is behind it

pub draft_of-requires-clause-read : goal.draft_of-requires-clause-read
draft_of-requires-clause-read g c = c.in-Ok.ensures.inside (g.A.Source.len c.args.media.now) c.requires.inside

pub draft_of-requires-clause-kind : goal.draft_of-requires-clause-kind
draft_of-requires-clause-kind g c = λ file known.
    let media = c.in-Ok.ensures.stage file (c.requires.found file known) in
    (media.0, media.2)

pub returns-clause-build : goal.returns-clause-build
returns-clause-build g c = c.draft_of.ensures.build

pub returns-clause-not_due : goal.returns-clause-not_due
returns-clause-not_due g c = c.draft_of.ensures.not_due

pub returns-clause-sources : goal.returns-clause-sources
returns-clause-sources g c = c.draft_of.ensures.sources

pub returns-clause-panel : goal.returns-clause-panel
returns-clause-panel g c = c.draft_of.ensures.panel
