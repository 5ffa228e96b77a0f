use Rattle.std.proofs.Common.{map, refl}
use Rattle.c2_spec.specs.Judges.Panel.{panel_says}
use Rattle.c2_calls_spec.proofs.SourceLemmas.{reads_nothing}
use Rattle.c2_collect_spec.specs.Outcomes as collect
use Rattle.c2_build_collect_base.specs.Grounds.{ground_effects}
use Rattle.c2_build_refusals.proofs.Judged.{hears_none, quiet_unheard}
use Rattle.c2_build_refusals.proofs.Outside.{outside_map, quiet_cause}
use Rattle.c2_build_collect.proofs.Stages.{media_error, refused_first}
use Rattle.c2_build_collect.proofs.Unasked.{refused_plan}
use Rattle.c2_build_collect.proofs.ready.Builder.plan.Goals as goal

-- ---- the store is refused

pub returns-in-Err-clause-planned : goal.returns-in-Err-clause-planned
returns-in-Err-clause-planned g c = λ file known bytes told others due.
    outside_map c.in-Err.error (λ s. refused_first (collect.IsMediaStage file) _ c.in-Err.error (media_error file c.in-Err.error s)) (c.in-Err.ensures.stage file (c.requires.found file known))

pub returns-in-Err-clause-not_due : goal.returns-in-Err-clause-not_due
returns-in-Err-clause-not_due g c =
    record
    { definition_unread = λ file known refused. refl; other_unread_first = λ file known refused. refl; other_unread = λ bytes known refused. refl }

pub returns-in-Err-clause-sources : goal.returns-in-Err-clause-sources
returns-in-Err-clause-sources g c = record {
  media = reads_nothing _ _ _ _ c.args.media.now _ (quiet_cause _ ground_effects _ _ _ refl c.in-Err.ensures.quiet);
  definition =
      reads_nothing _ _ _ _ c.args.definition.now _ (quiet_cause _ ground_effects _ _ _ refl c.in-Err.ensures.quiet);
  other = reads_nothing _ _ _ _ c.args.other.now _ (quiet_cause _ ground_effects _ _ _ refl c.in-Err.ensures.quiet);
}

pub returns-in-Err-clause-panel : goal.returns-in-Err-clause-panel
returns-in-Err-clause-panel g c =
    let said = panel_says (map (λ j. (goal.Judge-dyn g (j.vtable, j.value)).says j.value) c.args.judges.now.items) in
    hears_none c.args.judges.now c.in-Err.error (quiet_unheard _ c.in-Err.ensures.quiet)
    (refused_plan g.H.Hashing.digest_of said (g.A.Source.known c.args.media.now) (g.B.Source.known c.args.definition.now) (g.D.Source.known c.args.other.now) c.in-Err.error (λ file known. c.in-Err.ensures.stage file (c.requires.found file known)))

-- ---- what comes behind it

pub plan-requires-clause-inside : goal.plan-requires-clause-inside
plan-requires-clause-inside g c = c.in-Ok.ensures.inside (g.A.Source.len c.args.media.now) c.requires.inside

pub plan-requires-clause-kind : goal.plan-requires-clause-kind
plan-requires-clause-kind g c = λ file known. let media = c.in-Ok.ensures.stage file (c.requires.found file known) in (media.0, media.2)
