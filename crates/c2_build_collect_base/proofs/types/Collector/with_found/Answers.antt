use Rattle.std.proofs.Common.{map, refl}
use Rattle.c2_spec.specs.Judges.Panel.{panel_says}
use Rattle.c2_calls_spec.proofs.SourceLemmas.{reads_nothing}
use Rattle.c2_collect_spec.specs.Outcomes.{IsJoinedStage, IsOtherStage}
use Rattle.c2_new_file_spec.specs.Store.{new_alg}
use Rattle.c2_build_refusals.proofs.Judged.{hears_none}
use Rattle.c2_build_refusals.proofs.Outside.{outside_map}
use Rattle.c2_build_collect_base.proofs.Files.{other_refuses, unopened_error}
use Rattle.c2_build_collect_base.proofs.Pair.{ground_first, inner_cause, inner_unheard, opening_asks}
use Rattle.c2_build_collect_base.proofs.types.Collector.with_found.Goals as goal

-- the store is refused
pub returns-in-Err-clause-ground : goal.returns-in-Err-clause-ground
returns-in-Err-clause-ground g c = λ others known file m ours.
    let said = panel_says (map (λ j. (goal.Judge-dyn g (j.vtable, j.value)).says j.value) c.args.judges.now.items) in
    let hash = g.H.Hashing.digest_of in
    let d = c.args.self.now.definition.now in
    let e = c.in-Err.error in
    ground_first (hash (new_alg d)) file d (IsOtherStage hash said others) (IsJoinedStage d m) e
    (other_refuses hash said others e (outside_map e (unopened_error hash said others e) (c.in-Err.ensures.refused others (c.requires.found others known))))

pub returns-in-Err-clause-reads : goal.returns-in-Err-clause-reads
returns-in-Err-clause-reads g c =
    reads_nothing _ _ _ _ c.args.other.now _ (inner_cause ⊥ _ _ _ refl c.in-Err.ensures.inner)

pub returns-in-Err-clause-panel : goal.returns-in-Err-clause-panel
returns-in-Err-clause-panel g c =
    let said = panel_says (map (λ j. (goal.Judge-dyn g (j.vtable, j.value)).says j.value) c.args.judges.now.items) in
    hears_none c.args.judges.now c.in-Err.error (inner_unheard _ c.in-Err.ensures.inner)
    (opening_asks g.H.Hashing.digest_of said (g.D.Source.known c.args.other.now) c.in-Err.error (λ others known. c.in-Err.ensures.refused others (c.requires.found others known)))

-- it is read
pub with_read-requires-clause-boxes : goal.with_read-requires-clause-boxes
with_read-requires-clause-boxes g c = c.in-Ok.ensures.boxes

pub with_read-requires-clause-there : goal.with_read-requires-clause-there
with_read-requires-clause-there g c = λ others known. c.in-Ok.ensures.there others (c.requires.found others known)
