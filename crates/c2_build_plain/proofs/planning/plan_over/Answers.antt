use Rattle.std.proofs.Common.{map, subst, ◌∙◌, sym, ℕ}
use Rattle.c2_spec.specs.Judges.Panel.{panel_says}
use Rattle.c2_new_file_spec.specs.Store.{new_alg}
use Rattle.c2_without_store.specs.Clears.{cleared_len}
use Rattle.c2_build_refusals.specs.Kinds.{judge_effects, no_effects}
use Rattle.c2_build_refusals.proofs.Judged.{hears_behind, hears_failed, read_result}
use Rattle.c2_build_refusals.proofs.Outside.{outside_map, reads_behind}
use Rattle.c2_build_parts.specs.Bound.{IsSmall}
use Rattle.c2_build_plain.proofs.Drawn.{refused_plan}
use Rattle.c2_build_plain.proofs.NewStores.{planned_by}
use Rattle.c2_build_plain.proofs.planning.plan_over.Goals as goal

-- the place is refused
pub returns-in-Err-clause-planned : goal.returns-in-Err-clause-planned
returns-in-Err-clause-planned g c = λ bytes known kind is of_file.
    let said = panel_says (map (λ j. (goal.Judge-dyn g (j.vtable, j.value)).says j.value) c.args.judges.now.items) in
    let hash = g.H.Hashing.digest_of in
    outside_map c.in-Err.error (refused_plan hash said bytes kind c.args.definition.now c.in-Err.error) (c.in-Err.ensures.refused bytes known kind is of_file)

-- this is to be signed, where neither the media fails nor memory
pub signed_draft-requires-clause-small : goal.signed_draft-requires-clause-small
signed_draft-requires-clause-small g c =
    let d = c.args.definition.now in
    subst (λ (n : ℕ). IsSmall (g.H.Hashing.digest_of (new_alg d)) (cleared_len c.in-Ok.drafted.ground.clearing n) d c.in-Ok.drafted) (sym c.in-Ok.ensures.reads.stays.same_len) c.in-Ok.ensures.small

pub returns-clause-planned : goal.returns-clause-planned
returns-clause-planned g c = λ bytes known kind is of_file.
    let said = panel_says (map (λ j. (goal.Judge-dyn g (j.vtable, j.value)).says j.value) c.args.judges.now.items) in
    planned_by g.H.Hashing.digest_of said bytes kind c.args.definition.now c.in-Ok.drafted
    (g.A.Source.known c.draft_over.new.media) c.signed_draft.result (c.in-Ok.ensures.passed bytes known kind is)
    (c.in-Ok.ensures.reads.stays.same_bytes ∙ known) c.signed_draft.ensures.signed c.signed_draft.ensures.nothing

-- ---- what is left of the media, and what judges hear

pub returns-in-Err-clause-reads : goal.returns-in-Err-clause-reads
returns-in-Err-clause-reads g c =
    record { stays = c.in-Err.ensures.reads.stays; quiet = tt; cause = c.in-Err.ensures.reads.cause }

pub returns-in-Err-clause-panel : goal.returns-in-Err-clause-panel
returns-in-Err-clause-panel g c =
    hears_failed c.args.judges.now c.draft_over.new.judges c.in-Err.error (λ qs asks. asks) c.in-Err.ensures.panel

pub returns-clause-reads : goal.returns-clause-reads
returns-clause-reads g c =
    reads_behind judge_effects c.args.media.now c.draft_over.new.media c.signed_draft.new.media c.in-Ok.drafted c.signed_draft.result c.in-Ok.ensures.reads c.signed_draft.ensures.reads.stays c.signed_draft.ensures.reads.quiet c.signed_draft.ensures.reads.cause

pub returns-clause-panel : goal.returns-clause-panel
returns-clause-panel g c =
    hears_behind c.args.judges.now c.draft_over.new.judges c.in-Ok.drafted _
    (read_result no_effects _ _ c.signed_draft.result c.signed_draft.ensures.reads.cause) (λ qs asks. asks)
    c.in-Ok.ensures.panel
