use Rattle.std.proofs.Common.{map, refl, sym, subst}
use Rattle.c2_spec.specs.Judges.Panel.{panel_says}
use Rattle.c2_calls_spec.proofs.PanelLemmas.{hears_early}
use Rattle.c2_calls_spec.proofs.SourceLemmas.{reads_nothing, reads_then}
use Rattle.c2_collect_spec.specs.Outcomes.{IsJoinedStage, IsOtherStage}
use Rattle.c2_container.specs.Contained.{HasRootsInside}
use Rattle.c2_new_file_spec.specs.Store.{new_alg}
use Rattle.c2_build_refusals.proofs.Judged.{hears_behind, hears_failed}
use Rattle.c2_build_collect_base.proofs.Boxed.{read_store}
use Rattle.c2_build_collect_base.proofs.Files.{other_passes, other_refuses}
use Rattle.c2_build_collect_base.proofs.Pair.{ground_first, ground_next, inner_causes, inner_result, read_from}
use Rattle.c2_build_collect_base.proofs.types.Collector.with_read.Goals as goal

-- ---- there is no memory for its manifests

pub returns-in-Err-clause-reads : goal.returns-in-Err-clause-reads
returns-in-Err-clause-reads g c = reads_nothing _ _ _ _ c.args.other.now _ tt

pub returns-in-Err-clause-panel : goal.returns-in-Err-clause-panel
returns-in-Err-clause-panel g c = hears_early _ _ _ _ _ c.args.judges.now _ refl

-- ---- its check refuses it

pub check_other-requires : goal.check_other-requires
check_other-requires g c =
    subst (HasRootsInside (g.D.Source.len c.args.other.now)) (sym c.opened_in-store.ensures.container) c.requires.inside

pub returns-in-Err-check_other-clause-ground : goal.returns-in-Err-check_other-clause-ground
returns-in-Err-check_other-clause-ground g c = λ others known file m ours.
    let said = panel_says (map (λ j. (goal.Judge-dyn g (j.vtable, j.value)).says j.value) c.args.judges.now.items) in
    let hash = g.H.Hashing.digest_of in
    let d = c.args.self.now.definition.now in
    let e = c.in-Err-check_other.error in
    let from =
    read_from others c.args.container.now c.args.read.now c.opened_in-store.result _
    (c.requires.there others known) c.opened_in-store.ensures.container c.opened_in-store.ensures.range
    c.opened_in-store.ensures.chain c.in-Ok.ensures.reads in
    ground_first (hash (new_alg d)) file d (IsOtherStage hash said others) (IsJoinedStage d m) e (other_refuses hash said others e (c.in-Err-check_other.ensures.refused others known from))

pub returns-in-Err-check_other-clause-reads : goal.returns-in-Err-check_other-clause-reads
returns-in-Err-check_other-clause-reads g c =
    record
    { stays = c.in-Err-check_other.ensures.reads.stays; quiet = tt; cause = c.in-Err-check_other.ensures.reads.cause }

pub returns-in-Err-check_other-clause-panel : goal.returns-in-Err-check_other-clause-panel
returns-in-Err-check_other-clause-panel g c =
    let said = panel_says (map (λ j. (goal.Judge-dyn g (j.vtable, j.value)).says j.value) c.args.judges.now.items) in
    hears_failed c.args.judges.now c.check_other.new.judges c.in-Err-check_other.error
    (λ qs k. c.a_store_answers_for_its_file.ensures.asks g.H.Hashing.digest_of said k.0 c.opened_in-store.result qs
    (read_from k.0 c.args.container.now c.args.read.now c.opened_in-store.result _ (c.requires.there k.0 k.1) c.opened_in-store.ensures.container c.opened_in-store.ensures.range c.opened_in-store.ensures.chain c.in-Ok.ensures.reads) k.2)
    c.in-Err-check_other.ensures.panel

-- ---- both are joined

pub joined-requires-clause-theirs : goal.joined-requires-clause-theirs
joined-requires-clause-theirs g c =
    read_store c.args.read.now _ c.store_with-theirs.result c.store_with-theirs.ensures.older
    c.store_with-theirs.ensures.chain c.requires.boxes c.in-Ok.ensures.reads

pub returns-clause-ground : goal.returns-clause-ground
returns-clause-ground g c = λ others known file m ours.
    let said = panel_says (map (λ j. (goal.Judge-dyn g (j.vtable, j.value)).says j.value) c.args.judges.now.items) in
    let hash = g.H.Hashing.digest_of in
    let d = c.args.self.now.definition.now in
    let there = c.requires.there others known in
    let from =
    read_from others c.args.container.now c.args.read.now c.opened_in-store.result _ there
    c.opened_in-store.ensures.container c.opened_in-store.ensures.range c.opened_in-store.ensures.chain
    c.in-Ok.ensures.reads in
    let passed =
    other_passes hash said others
    c.args.read.now c.store_with-theirs.result c.store_with-theirs.ensures.older there.opened
    (c.in-Ok-check_other.ensures.checked others known from)
    (read_store c.args.read.now _ c.store_with-theirs.result c.store_with-theirs.ensures.older c.store_with-theirs.ensures.chain c.requires.boxes c.in-Ok.ensures.reads) in
    ground_next (hash (new_alg d)) file d (IsOtherStage hash said others) (IsJoinedStage d m) passed.other
    c.joined.result passed.stage (c.joined.ensures.ground hash file m passed.other ours passed.theirs)

pub returns-clause-reads : goal.returns-clause-reads
returns-clause-reads g c =
    reads_then _ _ _ _ _ c.args.other.now c.check_other.new.other tt c.joined.result
    (inner_causes ⊥ _ _ c.joined.result c.in-Ok-check_other.ensures.reads.quiet c.joined.ensures.inner)
    c.in-Ok-check_other.ensures.reads

pub returns-clause-panel : goal.returns-clause-panel
returns-clause-panel g c =
    let said = panel_says (map (λ j. (goal.Judge-dyn g (j.vtable, j.value)).says j.value) c.args.judges.now.items) in
    hears_behind c.args.judges.now c.check_other.new.judges tt c.joined.result
    (inner_result c.joined.result c.joined.ensures.inner)
    (λ qs k. c.a_store_answers_for_its_file.ensures.asks g.H.Hashing.digest_of said k.0 c.opened_in-store.result qs
    (read_from k.0 c.args.container.now c.args.read.now c.opened_in-store.result _ (c.requires.there k.0 k.1) c.opened_in-store.ensures.container c.opened_in-store.ensures.range c.opened_in-store.ensures.chain c.in-Ok.ensures.reads) k.2)
    c.in-Ok-check_other.ensures.panel
