use Rattle.std.proofs.Common.{map, refl, sym, subst}
use Rattle.std.specs.Prelude.{Err, Ok}
use Rattle.c2_spec.specs.C2pa.Manifest.{manifests_of}
use Rattle.c2_spec.specs.Judges.Panel.{panel_says}
use Rattle.c2_rules.specs.Claims.{Chained}
use Rattle.c2_rules.specs.Readings.{AreReadings}
use Rattle.c2_calls_spec.proofs.PanelLemmas.{hears_early}
use Rattle.c2_calls_spec.proofs.SourceLemmas.{reads_nothing, reads_then}
use Rattle.c2_container.specs.Contained.{HasRootsInside}
use Rattle.c2_new_file_spec.specs.Store.{new_alg}
use Rattle.c2_build_refusals.specs.Kinds.{judge_effects, ComesAs, WithoutFault}
use Rattle.c2_build_refusals.specs.Stages.{IsGroundStage, IsMediaStage, MediaKind}
use Rattle.c2_build_base.specs.Grounds.{HasBoxes, IsClearedTo, IsGround}
use Rattle.c2_build_base.proofs.Grounds.{check_stage, over_refused, stored_over}
use Rattle.c2_build_base.proofs.Opened.{fresh_asks, fresh_kind, older_asks, opened_from, opened_older, stored_kind}
use Rattle.c2_build_refusals.proofs.Judged.{hears_behind, hears_failed, hears_quiet, older_result}
use Rattle.c2_build_refusals.proofs.Outside.{older_results, quiet_results}
use Rattle.c2_build_base.proofs.ground.grounded.Goals as goal

-- ---- a file without a store

pub returns-in_default-clause-ground : goal.returns-in_default-clause-ground
returns-in_default-clause-ground g c = λ bytes known kind is.
    let said = panel_says (map (λ j. (goal.Judge-dyn g (j.vtable, j.value)).says j.value) c.args.judges.now.items) in
    let d = c.args.definition.now in
    let fresh = fresh_kind bytes c.args.file.now kind c.in_default.is is in
    subst
    (λ (k : MediaKind). ComesAs (IsGround (g.H.Hashing.digest_of (new_alg d)) bytes d) (IsGroundStage g.H.Hashing.digest_of said bytes d k) c.fresh_ground.result)
    (sym fresh)
    (c.fresh_ground.ensures.ground g.H.Hashing.digest_of said bytes (λ text. (g.met.H.Hashing.is_digest (new_alg d) text).sized) (subst (λ (k : MediaKind). IsClearedTo bytes k c.args.file.now.clearing) fresh is.clears))

pub returns-in_default-clause-some : goal.returns-in_default-clause-some
returns-in_default-clause-some g c =
    c.fresh_ground.ensures.some (g.H.Hashing.digest_of (new_alg c.args.definition.now))
    (λ text. (g.met.H.Hashing.is_digest (new_alg c.args.definition.now) text).sized)

pub returns-in_default-clause-reads : goal.returns-in_default-clause-reads
returns-in_default-clause-reads g c =
    reads_nothing _ _ _ _ c.args.media.now c.fresh_ground.result
    (quiet_results _ judge_effects _ _ c.fresh_ground.result refl c.fresh_ground.ensures.quiet)

pub returns-in_default-clause-panel : goal.returns-in_default-clause-panel
returns-in_default-clause-panel g c =
    let said = panel_says (map (λ j. (goal.Judge-dyn g (j.vtable, j.value)).says j.value) c.args.judges.now.items) in
    hears_quiet c.args.judges.now c.fresh_ground.result c.fresh_ground.ensures.quiet
    (fresh_asks g.H.Hashing.digest_of said (g.A.Source.known c.args.media.now) c.args.file.now c.in_default.is)

-- ---- its store is read

pub of_store-requires : goal.of_store-requires
of_store-requires g c = subst HasBoxes c.in-Some.is c.requires.boxes

pub check_parent-requires : goal.check_parent-requires
check_parent-requires g c =
    subst (HasRootsInside (g.A.Source.len c.args.media.now)) (sym c.opened_in-store.ensures.container)
    c.requires.within.roots

pub over_store-requires-clause-boxes : goal.over_store-requires-clause-boxes
over_store-requires-clause-boxes g c = subst HasBoxes c.in-Some.is c.requires.boxes

pub returns-in-Err-clause-reads : goal.returns-in-Err-clause-reads
returns-in-Err-clause-reads g c = reads_nothing _ _ _ _ c.args.media.now _ tt

pub returns-in-Err-clause-panel : goal.returns-in-Err-clause-panel
returns-in-Err-clause-panel g c = hears_early _ _ _ _ _ c.args.judges.now _ refl

-- ---- its check refuses it

pub returns-in-Err-check_parent-clause-ground : goal.returns-in-Err-check_parent-clause-ground
returns-in-Err-check_parent-clause-ground g c = λ bytes known kind is.
    let said = panel_says (map (λ j. (goal.Judge-dyn g (j.vtable, j.value)).says j.value) c.args.judges.now.items) in
    let o = c.in-Some.older in
    let d = c.args.definition.now in
    let e = c.in-Err-check_parent.error in
    let from =
    opened_from bytes c.args.file.now o kind c.opened_in-store.result c.in-Some.is is
    c.opened_in-store.ensures.container c.opened_in-store.ensures.range
    (subst (λ (x : Chained). AreReadings (manifests_of o.tree) x.readings) (sym c.opened_in-store.ensures.chain) c.in-Ok.ensures.reads) in
    subst (λ (x : MediaKind). WithoutFault e (IsGroundStage g.H.Hashing.digest_of said bytes d x (Err e))) (sym (stored_kind bytes c.args.file.now o kind c.in-Some.is is))
    (check_stage g.H.Hashing.digest_of said bytes d o.range.start o.range.length o.tree e (opened_older bytes c.args.file.now o kind c.in-Some.is is) (c.in-Err-check_parent.ensures.refused bytes known from))

pub returns-in-Err-check_parent-clause-panel : goal.returns-in-Err-check_parent-clause-panel
returns-in-Err-check_parent-clause-panel g c =
    let said = panel_says (map (λ j. (goal.Judge-dyn g (j.vtable, j.value)).says j.value) c.args.judges.now.items) in
    let o = c.in-Some.older in
    hears_failed c.args.judges.now c.check_parent.new.judges c.in-Err-check_parent.error
    (older_asks g.H.Hashing.digest_of said (g.A.Source.known c.args.media.now) c.args.file.now o c.opened_in-store.result c.in-Some.is c.opened_in-store.ensures.container c.opened_in-store.ensures.range
    (subst (λ (x : Chained). AreReadings (manifests_of o.tree) x.readings) (sym c.opened_in-store.ensures.chain) c.in-Ok.ensures.reads)) c.in-Err-check_parent.ensures.panel

pub returns-in-Err-check_parent-clause-reads : goal.returns-in-Err-check_parent-clause-reads
returns-in-Err-check_parent-clause-reads g c =
    record
    { stays = c.in-Err-check_parent.ensures.reads.stays; quiet = tt; cause = c.in-Err-check_parent.ensures.reads.cause }

-- ---- what is built over it

pub returns-clause-ground : goal.returns-clause-ground
returns-clause-ground g c = λ bytes known kind is.
    let said = panel_says (map (λ j. (goal.Judge-dyn g (j.vtable, j.value)).says j.value) c.args.judges.now.items) in
    let hash = g.H.Hashing.digest_of in
    let o = c.in-Some.older in
    let d = c.args.definition.now in
    let same = stored_kind bytes c.args.file.now o kind c.in-Some.is is in
    let from =
    opened_from bytes c.args.file.now o kind c.opened_in-store.result c.in-Some.is is
    c.opened_in-store.ensures.container c.opened_in-store.ensures.range
    (subst (λ (x : Chained). AreReadings (manifests_of o.tree) x.readings) (sym c.opened_in-store.ensures.chain) c.in-Ok.ensures.reads) in
    subst
    (λ (x : MediaKind). ComesAs (IsGround (hash (new_alg d)) bytes d) (IsGroundStage hash said bytes d x) c.over_store.result)
    (sym same)
    (stored_over hash said bytes d o.range.start o.range.length o.tree c.args.file.now.clearing (subst (λ (x : MediaKind). IsMediaStage bytes (Ok x)) same is.stage)
    (subst (λ (x : MediaKind). IsClearedTo bytes x c.args.file.now.clearing) same is.clears) (c.in-Ok-check_parent.ensures.checked bytes known from) c.over_store.result
    (λ rs reads. c.over_store.ensures.over rs reads) (λ rs reads. over_refused d o.tree c.over_store.result rs reads c.over_store.ensures.refused))

pub returns-clause-reads : goal.returns-clause-reads
returns-clause-reads g c =
    reads_then _ _ _ _ _ c.args.media.now c.check_parent.new.media tt c.over_store.result
    (older_results _ judge_effects _ _ c.over_store.result tt c.in-Ok-check_parent.ensures.reads.quiet c.over_store.ensures.quiet)
    c.in-Ok-check_parent.ensures.reads

pub returns-clause-panel : goal.returns-clause-panel
returns-clause-panel g c =
    let said = panel_says (map (λ j. (goal.Judge-dyn g (j.vtable, j.value)).says j.value) c.args.judges.now.items) in
    let o = c.in-Some.older in
    hears_behind c.args.judges.now c.check_parent.new.judges tt c.over_store.result
    (older_result c.over_store.result c.over_store.ensures.quiet)
    (older_asks g.H.Hashing.digest_of said (g.A.Source.known c.args.media.now) c.args.file.now o c.opened_in-store.result c.in-Some.is c.opened_in-store.ensures.container c.opened_in-store.ensures.range
    (subst (λ (x : Chained). AreReadings (manifests_of o.tree) x.readings) (sym c.opened_in-store.ensures.chain) c.in-Ok.ensures.reads)) c.in-Ok-check_parent.ensures.panel
