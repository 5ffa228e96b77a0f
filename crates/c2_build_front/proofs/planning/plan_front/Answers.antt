use Rattle.std.proofs.Common.{refl, subst, sym, ℕ, ◌∙◌}
use Rattle.std.specs.Prelude.{Err}
use Rattle.c2_calls_spec.proofs.SourceLemmas.{stays_as_it_was}
use Rattle.c2_container.specs.Contained.{IsWithin}
use Rattle.c2_new_front_spec.specs.Outcomes.{IsPlannedOver}
use Rattle.c2_new_front_spec.specs.Outcomes as front
use Rattle.c2_build_refusals.proofs.Outside.{alone, outside_map, plain_cause, reads_earlier}
use Rattle.c2_build_front.proofs.Stages.{media_error, refused_first}
use Rattle.c2_build_front.specs.Answers.{plan_effects}
use Rattle.c2_build_endings.proofs.SourcesLemmas.{planned_next}
use Rattle.c2_build_front.proofs.planning.plan_front.Goals as goal

-- ---- the container is refused

pub returns-in-Err-clause-planned : goal.returns-in-Err-clause-planned
returns-in-Err-clause-planned g c = λ file known bytes due.
    outside_map c.in-Err.error (λ s. refused_first (front.IsMediaStage file) (IsPlannedOver g.H.Hashing.digest_of file bytes) c.in-Err.error (media_error file c.in-Err.error s)) (c.in-Err.ensures.refused file known)

pub returns-in-Err-clause-sources : goal.returns-in-Err-clause-sources
returns-in-Err-clause-sources g c = record {
  media =
      record
      { stays = c.in-Err.ensures.reads.stays; quiet = tt; cause = plain_cause _ plan_effects _ _ _ c.in-Err.ensures.reads.cause };
  definition =
      reads_earlier plan_effects c.args.definition.now c.args.definition.now _ _ (Err c.in-Err.error)
      (stays_as_it_was _ _ _ c.args.definition.now) refl (alone (λ rose. rose))
      (plain_cause _ plan_effects _ _ _ c.in-Err.ensures.reads.cause);
}

-- ---- what comes behind it

pub plan_in-requires-clause-inside : goal.plan_in-requires-clause-inside
plan_in-requires-clause-inside g c =
    subst (λ (n : ℕ). IsWithin n c.in-Ok.file) (sym c.in-Ok.ensures.reads.stays.same_len) c.in-Ok.ensures.inside

pub plan_in-requires-clause-found : goal.plan_in-requires-clause-found
plan_in-requires-clause-found g c =
    λ file known. c.in-Ok.ensures.found file (sym c.in-Ok.ensures.reads.stays.same_bytes ∙ known)

pub returns-clause-planned : goal.returns-clause-planned
returns-clause-planned g c =
    λ file known bytes due. c.plan_in.ensures.planned file (c.in-Ok.ensures.reads.stays.same_bytes ∙ known) bytes due

pub returns-clause-not_due : goal.returns-clause-not_due
returns-clause-not_due g c =
    λ file known refused. c.plan_in.ensures.not_due file (c.in-Ok.ensures.reads.stays.same_bytes ∙ known) refused

pub returns-clause-sources : goal.returns-clause-sources
returns-clause-sources g c =
    planned_next c.args.media.now c.open_media.new.media c.plan_in.new.media _ c.in-Ok.file c.plan_in.result
    c.in-Ok.ensures.reads c.plan_in.ensures.sources
