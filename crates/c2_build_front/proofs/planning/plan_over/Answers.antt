use Rattle.std.proofs.Common.{subst, sym, ℕ, ◌∙◌}
use Rattle.c2_bmff_binding_front.specs.Putting.{FitsIn}
use Rattle.c2_calls_spec.proofs.SourceLemmas.{reads_next}
use Rattle.c2_new_front_spec.specs.Outcomes.{IsPlannedIn}
use Rattle.c2_build_refusals.proofs.Outside.{outside_map}
use Rattle.c2_build_front.proofs.Stages.{planned_refuses, refused_over}
use Rattle.c2_build_front.proofs.planning.plan_over.Goals as goal

-- the media is refused, or a plan over it
pub returns-in-Err-clause-planned : goal.returns-in-Err-clause-planned
returns-in-Err-clause-planned g c = λ bytes known kind is size.
    let hash = g.H.Hashing.digest_of in
    let d = c.args.definition.now in
    outside_map c.in-Err.error (refused_over bytes is.stage.0 d c.in-Err.error (IsPlannedIn hash bytes d) (planned_refuses hash bytes d)) (c.in-Err.ensures.refused bytes known kind is size)

-- what was drafted is planned with
pub plan_with-requires-clause-fits : goal.plan_with-requires-clause-fits
plan_with-requires-clause-fits g c =
    subst (λ (n : ℕ). FitsIn n c.in-Ok.front) (sym c.in-Ok.ensures.reads.stays.same_len) c.in-Ok.ensures.fits

pub returns-clause-planned : goal.returns-clause-planned
returns-clause-planned g c =
    λ bytes known kind is size. c.plan_with.ensures.planned bytes (c.in-Ok.ensures.reads.stays.same_bytes ∙ known) is.stage.0 (c.in-Ok.ensures.drafted bytes known kind is)

pub returns-clause-reads : goal.returns-clause-reads
returns-clause-reads g c =
    reads_next _ _ _ _ _ c.args.media.now c.drafted.new.media c.plan_with.new.media c.in-Ok.front c.plan_with.result
    c.in-Ok.ensures.reads c.plan_with.ensures.reads
