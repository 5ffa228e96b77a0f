use Rattle.std.proofs.Common.{None, map, refl, sym, subst}
use Rattle.c2_lemmas.specs.Stages.{Then}
use Rattle.c2_spec.specs.Judges.Panel.{panel_says}
use Rattle.c2_spec.specs.Jumbf.Tree.{Tree}
use Rattle.c2_spec.specs.Located.{Opening, absent}
use Rattle.c2_calls_spec.proofs.SourceLemmas.{stays_as_it_was}
use Rattle.c2_collect_spec.specs.Outcomes.{IsJoinedStage, IsOtherStage, IsPairStage, IsParentStage}
use Rattle.c2_new_file_spec.specs.Store.{new_alg}
use Rattle.c2_build_refusals.proofs.Judged.{hears_as}
use Rattle.c2_build_refusals.proofs.Outside.{alone, reads_among, reads_earlier}
use Rattle.c2_build_collect_base.specs.Grounds.{IsGroundOf, IsParentRefused, ground_effects, opening_of}
use Rattle.c2_build_collect_base.proofs.Files.{fresh_passes}
use Rattle.c2_build_collect_base.proofs.Pair.{fresh_asked, fresh_clear, fresh_opening, ground_next, told_others}
use Rattle.c2_build_collect_base.proofs.types.Collector.ground.Goals as goal

-- ---- a media file without a store

pub returns-in_default-clause-ground : goal.returns-in_default-clause-ground
returns-in_default-clause-ground g c = λ bytes known kind is others told.
    let said = panel_says (map (λ j. (goal.Judge-dyn g (j.vtable, j.value)).says j.value) c.args.judges.now.items) in
    let hash = g.H.Hashing.digest_of in
    let d = c.args.self.now.definition.now in
    let file = c.args.file.now in
    let what = fresh_opening bytes file kind c.in_default.is is in
    let passed = fresh_passes hash said bytes _ refl (fresh_clear bytes file kind c.in_default.is is) in
    let due =
    told_others hash said bytes (opening_of kind) (g.D.Source.known c.args.other.now) others
    (λ refused. passed.only (subst (λ (w : Opening Tree). IsParentRefused hash said bytes w) what refused))
    told in
    subst
    (λ (w : Opening Tree). IsGroundOf (hash (new_alg d)) bytes d (IsPairStage hash said bytes others w d) c.with_other.result)
    (sym what)
    (ground_next (hash (new_alg d)) bytes d (IsParentStage hash said bytes absent) (λ m. Then (IsOtherStage hash said others) (IsJoinedStage d m)) passed.media c.with_other.result passed.stage
    (c.with_other.ensures.ground others due bytes passed.media passed.is_ours))

pub returns-in_default-clause-media : goal.returns-in_default-clause-media
returns-in_default-clause-media g c =
    reads_earlier ground_effects c.args.media.now c.args.media.now _ _ c.with_other.result
    (stays_as_it_was _ _ _ c.args.media.now) refl (alone (λ rose. rose)) c.with_other.ensures.reads.cause

pub returns-in_default-clause-other : goal.returns-in_default-clause-other
returns-in_default-clause-other g c =
    reads_among ground_effects c.args.other.now c.with_other.new.other c.with_other.result (λ none. absurd none)
    c.with_other.ensures.reads

pub returns-in_default-clause-not_due : goal.returns-in_default-clause-not_due
returns-in_default-clause-not_due g c = λ bytes known kind is refused.
    let said = panel_says (map (λ j. (goal.Judge-dyn g (j.vtable, j.value)).says j.value) c.args.judges.now.items) in
    let file = c.args.file.now in
    absurd ((fresh_passes g.H.Hashing.digest_of said bytes (record { clearing = file.clearing; store = None }) refl (fresh_clear bytes file kind c.in_default.is is)).only
    (subst (λ (w : Opening Tree). IsParentRefused g.H.Hashing.digest_of said bytes w) (fresh_opening bytes file kind c.in_default.is is) refused))

pub returns-in_default-clause-panel : goal.returns-in_default-clause-panel
returns-in_default-clause-panel g c =
    let said = panel_says (map (λ j. (goal.Judge-dyn g (j.vtable, j.value)).says j.value) c.args.judges.now.items) in
    let file = c.args.file.now in
    hears_as c.args.judges.now c.with_other.new.judges c.with_other.result
    (fresh_asked g.H.Hashing.digest_of said (g.A.Source.known c.args.media.now) (g.D.Source.known c.args.other.now) file c.in_default.is
    (λ bytes kind is refused. (fresh_passes g.H.Hashing.digest_of said bytes (record { clearing = file.clearing; store = None }) refl (fresh_clear bytes file kind c.in_default.is is)).only
    (subst (λ (w : Opening Tree). IsParentRefused g.H.Hashing.digest_of said bytes w) (fresh_opening bytes file kind c.in_default.is is) refused))) c.with_other.ensures.panel
