use Rattle.std.proofs.Common.{List, Option, map, refl, subst, sym, ℕ, ◌∙◌}
use Rattle.std.specs.Prelude.{Err}
use Rattle.c2_spec.specs.Judges.Panel.{panel_says}
use Rattle.c2_calls_spec.proofs.SourceLemmas.{stays_as_it_was}
use Rattle.c2_container.specs.Contained.{IsWithin}
use Rattle.c2_build_plain.specs.Answers.{AsksPlanned}
use Rattle.c2_build_refusals.specs.Stages.{IsMediaStage}
use Rattle.c2_build_refusals.proofs.Stages.{comes_first}
use Rattle.c2_build_refusals.proofs.Judged.{hears_none, hears_told, read_unheard}
use Rattle.c2_build_refusals.proofs.Outside.{alone, plain_cause, reads_earlier}
use Rattle.c2_build_plain.proofs.Unasked.{refused_plan}
use Rattle.c2_build_refusals.specs.Kinds.{judge_effects, no_effects}
use Rattle.c2_build_endings.proofs.SourcesLemmas.{planned_next}
use Rattle.c2_build_plain.proofs.planning.plan.Goals as goal

-- ---- the container is refused

pub returns-in-Err-clause-planned : goal.returns-in-Err-clause-planned
returns-in-Err-clause-planned g c =
    λ file known bytes due. comes_first (IsMediaStage file) _ c.in-Err.error (c.in-Err.ensures.refused file known)

pub returns-in-Err-clause-sources : goal.returns-in-Err-clause-sources
returns-in-Err-clause-sources g c = record {
  media =
      record
      { stays = c.in-Err.ensures.reads.stays; quiet = tt; cause = plain_cause _ judge_effects _ _ _ c.in-Err.ensures.reads.cause };
  definition =
      reads_earlier judge_effects c.args.definition.now c.args.definition.now _ _ (Err c.in-Err.error)
      (stays_as_it_was _ _ _ c.args.definition.now) refl (alone (λ rose. rose))
      (plain_cause _ judge_effects _ _ _ c.in-Err.ensures.reads.cause);
}

pub returns-in-Err-clause-panel : goal.returns-in-Err-clause-panel
returns-in-Err-clause-panel g c =
    let said = panel_says (map (λ j. (goal.Judge-dyn g (j.vtable, j.value)).says j.value) c.args.judges.now.items) in
    hears_none c.args.judges.now c.in-Err.error (read_unheard no_effects _ _ _ c.in-Err.ensures.reads.cause)
    (refused_plan g.H.Hashing.digest_of said (g.A.Source.known c.args.media.now) (g.B.Source.known c.args.definition.now) c.in-Err.error (λ file known. c.in-Err.ensures.refused file known))

-- ---- what comes behind it

pub plan_in-requires-clause-inside : goal.plan_in-requires-clause-inside
plan_in-requires-clause-inside g c =
    subst (λ (n : ℕ). IsWithin n c.in-Ok.file) (sym c.in-Ok.ensures.reads.stays.same_len) c.in-Ok.ensures.inside

pub plan_in-requires-clause-found : goal.plan_in-requires-clause-found
plan_in-requires-clause-found g c =
    λ file known. c.in-Ok.ensures.found file (sym c.in-Ok.ensures.reads.stays.same_bytes ∙ known)

pub returns-clause-planned : goal.returns-clause-planned
returns-clause-planned g c =
    λ file known bytes due. c.plan_in.ensures.planned file (c.in-Ok.ensures.reads.stays.same_bytes ∙ known) bytes due

pub returns-clause-not_due : goal.returns-clause-not_due
returns-clause-not_due g c =
    λ file known refused. c.plan_in.ensures.not_due file (c.in-Ok.ensures.reads.stays.same_bytes ∙ known) refused

pub returns-clause-sources : goal.returns-clause-sources
returns-clause-sources g c =
    planned_next c.args.media.now c.open_media.new.media c.plan_in.new.media _ c.in-Ok.file c.plan_in.result
    c.in-Ok.ensures.reads c.plan_in.ensures.sources

pub returns-clause-panel : goal.returns-clause-panel
returns-clause-panel g c =
    hears_told
    (λ (known : Option (List ℕ)). AsksPlanned g.H.Hashing.digest_of known (g.B.Source.known c.args.definition.now))
    (g.A.Source.known c.args.media.now) (g.A.Source.known c.open_media.new.media) c.args.judges.now
    c.plan_in.new.judges c.plan_in.result
    c.in-Ok.ensures.reads.stays.same_bytes c.plan_in.ensures.panel
