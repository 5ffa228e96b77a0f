use Rattle.std.proofs.Common.{map, sym, subst, ◌∙◌}
use Rattle.c2_spec.specs.Judges.Panel.{panel_says}
use Rattle.c2_calls_spec.proofs.SourceLemmas.{reads_next}
use Rattle.c2_calls_spec.specs.Asks.{AsksKnown}
use Rattle.c2_collect_spec.specs.Outcomes.{IsJoinedStage, IsOtherStage}
use Rattle.c2_container.specs.Contained.{HasRootsInside}
use Rattle.c2_new_file_spec.specs.Store.{new_alg}
use Rattle.c2_build_refusals.proofs.Judged.{hears_none, hears_told, read_unheard}
use Rattle.c2_build_refusals.proofs.Outside.{outside_map}
use Rattle.c2_validate.specs.Validation.{FileAsks}
use Rattle.c2_build_collect_base.specs.Steps.{other_effects}
use Rattle.c2_build_collect_base.proofs.Files.{other_refuses, unopened_error}
use Rattle.c2_build_collect_base.proofs.Pair.{found_ground, ground_first, opening_asks}
use Rattle.c2_build_collect_base.proofs.types.Collector.with_other.Goals as goal

-- ---- the other file is refused

pub returns-in-Err-clause-ground : goal.returns-in-Err-clause-ground
returns-in-Err-clause-ground g c = λ others known file m ours.
    let said = panel_says (map (λ j. (goal.Judge-dyn g (j.vtable, j.value)).says j.value) c.args.judges.now.items) in
    let hash = g.H.Hashing.digest_of in
    let d = c.args.self.now.definition.now in
    let e = c.in-Err.error in
    ground_first (hash (new_alg d)) file d (IsOtherStage hash said others) (IsJoinedStage d m) e (other_refuses hash said others e (outside_map e (unopened_error hash said others e) (c.in-Err.ensures.refused others known)))

pub returns-in-Err-clause-reads : goal.returns-in-Err-clause-reads
returns-in-Err-clause-reads g c =
    record { stays = c.in-Err.ensures.reads.stays; quiet = tt; cause = found_ground _ _ _ c.in-Err.ensures.reads.cause }

pub returns-in-Err-clause-panel : goal.returns-in-Err-clause-panel
returns-in-Err-clause-panel g c =
    let said = panel_says (map (λ j. (goal.Judge-dyn g (j.vtable, j.value)).says j.value) c.args.judges.now.items) in
    hears_none c.args.judges.now c.in-Err.error (read_unheard other_effects _ _ _ c.in-Err.ensures.reads.cause)
    (opening_asks g.H.Hashing.digest_of said (g.D.Source.known c.args.other.now) c.in-Err.error c.in-Err.ensures.refused)

-- ---- it has a store

pub with_found-requires-clause-inside : goal.with_found-requires-clause-inside
with_found-requires-clause-inside g c =
    subst (λ n. HasRootsInside n c.in-Ok.found.container) (sym c.in-Ok.ensures.reads.stays.same_len)
    c.in-Ok.ensures.inside

pub with_found-requires-clause-found : goal.with_found-requires-clause-found
with_found-requires-clause-found g c =
    λ file known. c.in-Ok.ensures.found file (sym c.in-Ok.ensures.reads.stays.same_bytes ∙ known)

pub returns-clause-ground : goal.returns-clause-ground
returns-clause-ground g c =
    λ others known file m ours. c.with_found.ensures.ground others (c.in-Ok.ensures.reads.stays.same_bytes ∙ known) file m ours

pub returns-clause-reads : goal.returns-clause-reads
returns-clause-reads g c =
    reads_next _ _ _ _ _ c.args.other.now c.open_other.new.other c.with_found.new.other _ c.with_found.result
    c.in-Ok.ensures.reads c.with_found.ensures.reads

pub returns-clause-panel : goal.returns-clause-panel
returns-clause-panel g c =
    hears_told (λ known. AsksKnown known (FileAsks g.H.Hashing.digest_of)) (g.D.Source.known c.args.other.now) (g.D.Source.known c.open_other.new.other) c.args.judges.now c.with_found.new.judges c.with_found.result c.in-Ok.ensures.reads.stays.same_bytes
    c.with_found.ensures.panel
