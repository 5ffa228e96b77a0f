use Rattle.std.proofs.Common.{List, map, refl, sym, subst}
use Rattle.std.specs.Prelude.{Err, Ok}
use Rattle.c2_lemmas.specs.Stages.{Then}
use Rattle.c2_base.specs.declared.values.Question.{Question}
use Rattle.c2_spec.specs.C2pa.Manifest.{manifests_of}
use Rattle.c2_spec.specs.Judges.Panel.{panel_says}
use Rattle.c2_spec.specs.Jumbf.Tree.{Tree}
use Rattle.c2_spec.specs.Located.{Opening, here}
use Rattle.c2_spec.specs.declared.panel.Verdict.{Verdict}
use Rattle.c2_calls_spec.proofs.PanelLemmas.{hears_early}
use Rattle.c2_calls_spec.proofs.SourceLemmas.{reads_nothing, stays_as_it_was}
use Rattle.c2_collect_spec.specs.Outcomes.{IsJoinedStage, IsOtherStage, IsPairStage, IsParentStage}
use Rattle.c2_container.specs.Contained.{HasRootsInside}
use Rattle.c2_rules.specs.Claims.{Chained}
use Rattle.c2_rules.specs.Readings.{AreReadings}
use Rattle.c2_new_file_spec.specs.Store.{new_alg}
use Rattle.c2_build_base.specs.Grounds.{HasBoxes}
use Rattle.c2_build_base.proofs.Opened.{opened_from, opened_older}
use Rattle.c2_build_refusals.proofs.Outside.{alone, outside_map, reads_among, reads_earlier}
use Rattle.c2_build_collect_base.specs.Grounds.{IsGroundOf, IsParentRefused, ground_effects, opening_of}
use Rattle.c2_build_collect_base.proofs.Boxed.{read_store}
use Rattle.c2_build_collect_base.proofs.Files.{parent_only, parent_refuses, stored_passes}
use Rattle.c2_build_collect_base.proofs.Heard.{hears_begun, hears_both}
use Rattle.c2_build_collect_base.proofs.Pair.{asks_ground, asks_unwritten, ground_first, ground_next, stored_asked, stored_begins, stored_left, stored_opening, told_others}
use Rattle.c2_build_collect_base.proofs.types.Collector.over_store.Goals as goal

-- ---- there is no memory for its manifests

pub returns-in-Err-clause-media : goal.returns-in-Err-clause-media
returns-in-Err-clause-media g c = reads_nothing _ _ _ _ c.args.media.now _ tt

pub returns-in-Err-clause-other : goal.returns-in-Err-clause-other
returns-in-Err-clause-other g c = reads_nothing _ _ _ _ c.args.other.now _ tt

pub returns-in-Err-clause-panel : goal.returns-in-Err-clause-panel
returns-in-Err-clause-panel g c = hears_early _ _ _ _ _ c.args.judges.now _ refl

-- ---- its store is read

pub of_store-requires : goal.of_store-requires
of_store-requires g c = subst HasBoxes c.requires.older c.requires.read.boxes

pub check_parent-requires : goal.check_parent-requires
check_parent-requires g c =
    subst (HasRootsInside (g.A.Source.len c.args.media.now)) (sym c.opened_in-store.ensures.container)
    c.requires.read.within.roots

-- ---- its check refuses it

pub returns-in-Err-check_parent-clause-ground : goal.returns-in-Err-check_parent-clause-ground
returns-in-Err-check_parent-clause-ground g c = λ bytes known kind is others told.
    let said = panel_says (map (λ j. (goal.Judge-dyn g (j.vtable, j.value)).says j.value) c.args.judges.now.items) in
    let hash = g.H.Hashing.digest_of in
    let d = c.args.self.now.definition.now in
    let file = c.args.file.now in
    let o = c.args.older.now in
    let e = c.in-Err-check_parent.error in
    let from =
    opened_from bytes file o kind c.opened_in-store.result c.requires.older is c.opened_in-store.ensures.container
    c.opened_in-store.ensures.range
    (subst (λ (x : Chained). AreReadings (manifests_of o.tree) x.readings) (sym c.opened_in-store.ensures.chain) c.in-Ok.ensures.reads) in
    subst
    (λ (what : Opening Tree). IsGroundOf (hash (new_alg d)) bytes d (IsPairStage hash said bytes others what d) (Err e))
    (sym (stored_opening bytes file o kind c.requires.older is))
    (ground_first (hash (new_alg d)) bytes d (IsParentStage hash said bytes (here o.range.start o.range.length o.tree)) (λ m. Then (IsOtherStage hash said others) (IsJoinedStage d m)) e
    (parent_refuses hash said bytes o.range.start o.range.length o.tree file.clearing e (opened_older bytes file o kind c.requires.older is) (stored_left bytes file o kind c.requires.older is)
    (c.in-Err-check_parent.ensures.refused bytes known from)))

pub returns-in-Err-check_parent-clause-media : goal.returns-in-Err-check_parent-clause-media
returns-in-Err-check_parent-clause-media g c =
    record
    { stays = c.in-Err-check_parent.ensures.reads.stays; quiet = tt; cause = asks_ground _ _ _ _ c.in-Err-check_parent.ensures.reads.cause }

pub returns-in-Err-check_parent-clause-other : goal.returns-in-Err-check_parent-clause-other
returns-in-Err-check_parent-clause-other g c =
    reads_earlier ground_effects c.args.other.now c.args.other.now _ _ (Err c.in-Err-check_parent.error) (stays_as_it_was _ _ _ c.args.other.now) refl (alone (λ rose. rose)) (asks_ground ⊥ _ _ _ c.in-Err-check_parent.ensures.reads.cause)

pub returns-in-Err-check_parent-clause-panel : goal.returns-in-Err-check_parent-clause-panel
returns-in-Err-check_parent-clause-panel g c =
    let said = panel_says (map (λ j. (goal.Judge-dyn g (j.vtable, j.value)).says j.value) c.args.judges.now.items) in
    let hash = g.H.Hashing.digest_of in
    let file = c.args.file.now in
    let o = c.args.older.now in
    let e = c.in-Err-check_parent.error in
    let reads =
    subst (λ (x : Chained). AreReadings (manifests_of o.tree) x.readings) (sym c.opened_in-store.ensures.chain)
    c.in-Ok.ensures.reads in
    hears_begun c.args.judges.now c.check_parent.new.judges e (asks_unwritten _ _ _ c.in-Err-check_parent.ensures.reads.cause)
    (stored_begins hash said (g.A.Source.known c.args.media.now) (g.D.Source.known c.args.other.now) file o c.opened_in-store.result e c.requires.older reads
    (λ bytes kind known is.
    let opened = opened_older bytes file o kind c.requires.older is in
    let from =
    opened_from bytes file o kind c.opened_in-store.result c.requires.older is
    c.opened_in-store.ensures.container c.opened_in-store.ensures.range reads in
    outside_map e
    (λ refused m stage. parent_only hash said bytes o.range.start o.range.length o.tree e opened refused m
    (subst (λ (what : Opening Tree). IsParentStage hash said bytes what (Ok m)) (stored_opening bytes file o kind c.requires.older is) stage))
    (c.in-Err-check_parent.ensures.refused bytes known from))) c.in-Err-check_parent.ensures.panel

-- ---- the other file is read

pub with_other-requires : goal.with_other-requires
with_other-requires g c =
    read_store c.args.older.now _ c.store_with.result c.store_with.ensures.older c.store_with.ensures.chain
    (subst HasBoxes c.requires.older c.requires.read.boxes) c.in-Ok.ensures.reads

pub returns-clause-ground : goal.returns-clause-ground
returns-clause-ground g c = λ bytes known kind is others told.
    let said = panel_says (map (λ j. (goal.Judge-dyn g (j.vtable, j.value)).says j.value) c.args.judges.now.items) in
    let hash = g.H.Hashing.digest_of in
    let d = c.args.self.now.definition.now in
    let file = c.args.file.now in
    let o = c.args.older.now in
    let what = stored_opening bytes file o kind c.requires.older is in
    let from =
    opened_from bytes file o kind c.opened_in-store.result c.requires.older is c.opened_in-store.ensures.container
    c.opened_in-store.ensures.range
    (subst (λ (x : Chained). AreReadings (manifests_of o.tree) x.readings) (sym c.opened_in-store.ensures.chain) c.in-Ok.ensures.reads) in
    let passed =
    stored_passes hash said bytes o
    c.store_with.result file.clearing c.store_with.ensures.older
    (opened_older bytes file o kind c.requires.older is) (stored_left bytes file o kind c.requires.older is) (c.in-Ok-check_parent.ensures.checked bytes known from)
    (read_store o _ c.store_with.result c.store_with.ensures.older c.store_with.ensures.chain (subst HasBoxes c.requires.older c.requires.read.boxes) c.in-Ok.ensures.reads) in
    let due =
    told_others hash said bytes (opening_of kind) (g.D.Source.known c.args.other.now) others
    (λ refused. passed.only (subst (λ (w : Opening Tree). IsParentRefused hash said bytes w) what refused))
    told in
    subst
    (λ (w : Opening Tree). IsGroundOf (hash (new_alg d)) bytes d (IsPairStage hash said bytes others w d) c.with_other.result)
    (sym what)
    (ground_next (hash (new_alg d)) bytes d (IsParentStage hash said bytes (here o.range.start o.range.length o.tree)) (λ m. Then (IsOtherStage hash said others) (IsJoinedStage d m)) passed.media c.with_other.result passed.stage
    (subst (λ (f : List (Question → Verdict)). IsGroundOf (hash (new_alg d)) bytes d (Then (IsOtherStage hash (panel_says f) others) (IsJoinedStage d passed.media)) c.with_other.result) c.in-Ok-check_parent.ensures.panel.stays.same
    (c.with_other.ensures.ground others due bytes passed.media passed.is_ours)))

pub returns-clause-not_due : goal.returns-clause-not_due
returns-clause-not_due g c = λ bytes known kind is refused.
    let said = panel_says (map (λ j. (goal.Judge-dyn g (j.vtable, j.value)).says j.value) c.args.judges.now.items) in
    let hash = g.H.Hashing.digest_of in
    let file = c.args.file.now in
    let o = c.args.older.now in
    let from =
    opened_from bytes file o kind c.opened_in-store.result c.requires.older is c.opened_in-store.ensures.container
    c.opened_in-store.ensures.range
    (subst (λ (x : Chained). AreReadings (manifests_of o.tree) x.readings) (sym c.opened_in-store.ensures.chain) c.in-Ok.ensures.reads) in
    let passed =
    stored_passes hash said bytes o
    c.store_with.result file.clearing c.store_with.ensures.older
    (opened_older bytes file o kind c.requires.older is) (stored_left bytes file o kind c.requires.older is) (c.in-Ok-check_parent.ensures.checked bytes known from)
    (read_store o _ c.store_with.result c.store_with.ensures.older c.store_with.ensures.chain (subst HasBoxes c.requires.older c.requires.read.boxes) c.in-Ok.ensures.reads) in
    absurd
    (passed.only (subst (λ (w : Opening Tree). IsParentRefused hash said bytes w) (stored_opening bytes file o kind c.requires.older is) refused))

pub returns-clause-panel : goal.returns-clause-panel
returns-clause-panel g c =
    let said = panel_says (map (λ j. (goal.Judge-dyn g (j.vtable, j.value)).says j.value) c.args.judges.now.items) in
    let hash = g.H.Hashing.digest_of in
    let file = c.args.file.now in
    let o = c.args.older.now in
    let reads =
    subst (λ (x : Chained). AreReadings (manifests_of o.tree) x.readings) (sym c.opened_in-store.ensures.chain)
    c.in-Ok.ensures.reads in
    hears_both c.args.judges.now c.check_parent.new.judges c.with_other.new.judges tt c.with_other.result
    (stored_asked hash said (g.A.Source.known c.args.media.now) (g.D.Source.known c.args.other.now) file o c.opened_in-store.result c.requires.older reads
    (λ bytes kind known is refused.
    let from =
    opened_from bytes file o kind c.opened_in-store.result c.requires.older is
    c.opened_in-store.ensures.container c.opened_in-store.ensures.range reads in
    (stored_passes hash said bytes o c.store_with.result file.clearing c.store_with.ensures.older
    (opened_older bytes file o kind c.requires.older is) (stored_left bytes file o kind c.requires.older is) (c.in-Ok-check_parent.ensures.checked bytes known from)
    (read_store o _ c.store_with.result c.store_with.ensures.older c.store_with.ensures.chain (subst HasBoxes c.requires.older c.requires.read.boxes) c.in-Ok.ensures.reads)).only
    (subst (λ (w : Opening Tree). IsParentRefused hash said bytes w) (stored_opening bytes file o kind c.requires.older is) refused))) c.in-Ok-check_parent.ensures.panel c.with_other.ensures.panel

pub returns-clause-media : goal.returns-clause-media
returns-clause-media g c =
    reads_earlier ground_effects c.args.media.now c.check_parent.new.media _ _ c.with_other.result c.in-Ok-check_parent.ensures.reads.stays c.in-Ok-check_parent.ensures.reads.quiet (alone (λ rose. rose)) c.with_other.ensures.reads.cause

pub returns-clause-other : goal.returns-clause-other
returns-clause-other g c =
    reads_among ground_effects c.args.other.now c.with_other.new.other c.with_other.result (λ none. absurd none)
    c.with_other.ensures.reads
