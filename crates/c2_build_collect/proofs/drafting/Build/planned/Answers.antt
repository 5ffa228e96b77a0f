use Rattle.std.proofs.Common.{map, subst, sym, ℕ, ◌∙◌}
use Rattle.std.proofs.lemmas.Result.{IfOk-weaker}
use Rattle.c2_lemmas.specs.Stages.{Then}
use Rattle.c2_spec.specs.Judges.Panel.{panel_says}
use Rattle.c2_new_file_spec.specs.Store.{new_alg}
use Rattle.c2_without_store.specs.Clears.{cleared_len}
use Rattle.c2_collect_spec.specs.Outcomes.{IsPairStage, IsPlannedOver, ground_signed}
use Rattle.c2_build_collect_base.specs.Grounds.{ground_effects, opening_of}
use Rattle.c2_build_refusals.specs.Kinds.{no_effects}
use Rattle.c2_build_refusals.proofs.Judged.{hears_behind, hears_failed, read_result}
use Rattle.c2_build_refusals.proofs.Outside.{alone, outside_map, reads_behind, reads_earlier}
use Rattle.c2_build_parts.specs.Bound.{IsSmall}
use Rattle.c2_build_collect.specs.Steps.{ground_of}
use Rattle.c2_build_collect.proofs.Planned.{passed_plan, planned_by, planned_refused}
use Rattle.c2_build_collect.proofs.drafting.Build.planned.Goals as goal

-- ---- something is refused

pub returns-in-Err-clause-planned : goal.returns-in-Err-clause-planned
returns-in-Err-clause-planned g c = λ of_file bytes known kind is others told.
    let said = panel_says (map (λ j. (goal.Judge-dyn g (j.vtable, j.value)).says j.value) c.args.judges.now.items) in
    outside_map c.in-Err.error (planned_refused g.H.Hashing.digest_of said bytes others (opening_of kind) c.args.self.now.definition.now c.in-Err.error) (c.in-Err.ensures.drafted bytes known kind is others told of_file)

pub returns-in-Err-clause-media : goal.returns-in-Err-clause-media
returns-in-Err-clause-media g c =
    record { stays = c.in-Err.ensures.media.stays; quiet = tt; cause = c.in-Err.ensures.media.cause }

pub returns-in-Err-clause-other : goal.returns-in-Err-clause-other
returns-in-Err-clause-other g c =
    record { stays = c.in-Err.ensures.other.stays; quiet = tt; cause = c.in-Err.ensures.other.cause }

pub returns-in-Err-clause-panel : goal.returns-in-Err-clause-panel
returns-in-Err-clause-panel g c =
    hears_failed c.args.judges.now c.drafted.new.judges c.in-Err.error (λ qs asks. asks) c.in-Err.ensures.panel

-- ---- this is to be signed, where neither the media fails nor memory

pub signed_draft-requires-clause-small : goal.signed_draft-requires-clause-small
signed_draft-requires-clause-small g c =
    let d = c.args.self.now.definition.now in
    subst (λ (n : ℕ). IsSmall (g.H.Hashing.digest_of (new_alg d)) (cleared_len c.in-Ok.drafted.ground.clearing n) d c.in-Ok.drafted) (sym c.in-Ok.ensures.media.stays.same_len) c.in-Ok.ensures.small

pub returns-clause-planned : goal.returns-clause-planned
returns-clause-planned g c = λ of_file bytes known kind is others told.
    let said = panel_says (map (λ j. (goal.Judge-dyn g (j.vtable, j.value)).says j.value) c.args.judges.now.items) in
    let hash = g.H.Hashing.digest_of in
    let d = c.args.self.now.definition.now in
    let what = opening_of kind in
    let at = c.in-Ok.ensures.drafted bytes known kind is others told in
    planned_by (Then (IsPairStage hash said bytes others what d) (IsPlannedOver hash d)) c.signed_draft.result
    (ground_signed hash d at.ground)
    (IfOk-weaker c.signed_draft.result _ _ (λ tbs signed. signed bytes (c.in-Ok.ensures.media.stays.same_bytes ∙ known) (ground_of at.ground) at.ground.place at.over) c.signed_draft.ensures.signed)
    c.signed_draft.ensures.nothing (passed_plan hash said bytes others what d at.ground at.passed)

pub returns-clause-media : goal.returns-clause-media
returns-clause-media g c =
    reads_behind ground_effects c.args.media.now c.drafted.new.media c.signed_draft.new.media c.in-Ok.drafted c.signed_draft.result c.in-Ok.ensures.media c.signed_draft.ensures.reads.stays c.signed_draft.ensures.reads.quiet c.signed_draft.ensures.reads.cause

pub returns-clause-other : goal.returns-clause-other
returns-clause-other g c =
    let media =
    reads_behind ground_effects {Other = ⊥} c.args.media.now c.drafted.new.media c.signed_draft.new.media
    c.in-Ok.drafted c.signed_draft.result c.in-Ok.ensures.media c.signed_draft.ensures.reads.stays
    c.signed_draft.ensures.reads.quiet c.signed_draft.ensures.reads.cause in
    reads_earlier ground_effects c.args.other.now c.drafted.new.other _ _ c.signed_draft.result c.in-Ok.ensures.other.stays c.in-Ok.ensures.other.quiet (alone (λ rose. rose)) media.cause

pub returns-clause-panel : goal.returns-clause-panel
returns-clause-panel g c =
    hears_behind c.args.judges.now c.drafted.new.judges c.in-Ok.drafted _
    (read_result no_effects _ _ c.signed_draft.result c.signed_draft.ensures.reads.cause) (λ qs asks. asks)
    c.in-Ok.ensures.panel
