use Rattle.std.proofs.Common.{inl, map, ℕ, sym, ◌∙◌, subst}
use Rattle.std.proofs.lemmas.Result.{IfErr-weaker, IfOk-weaker}
use Rattle.c2_spec.specs.Judges.Panel.{panel_says}
use Rattle.c2_calls_spec.proofs.SourceLemmas.{reads_then}
use Rattle.c2_container.specs.Contained.{IsWithin}
use Rattle.c2_without_store.specs.declared.clearing.Clearing.{Clearing}
use Rattle.c2_new_file_spec.specs.Store.{new_alg}
use Rattle.c2_build_refusals.specs.Kinds.{WithoutFault}
use Rattle.c2_build_refusals.proofs.Judged.{hears_behind, hears_failed, older_result}
use Rattle.c2_build_refusals.proofs.Outside.{older_results, outside_map}
use Rattle.c2_build_base.specs.Grounds.{IsSomeGround}
use Rattle.c2_build_drafts.specs.Drafts.{IsDraftedOver, IsOpenedIn, IsRefusedAt}
use Rattle.c2_build_collect_base.specs.Grounds.{ground_effects, opening_of}
use Rattle.c2_build_collect.proofs.Drafts.{draft_of, over, over_kept, over_len}
use Rattle.c2_build_collect.proofs.Stages.{opened_as, opened_kind}
use Rattle.c2_build_collect.proofs.drafting.Build.drafted.Goals as goal

-- ---- something of both files is refused

pub returns-in-Err-clause-drafted : goal.returns-in-Err-clause-drafted
returns-in-Err-clause-drafted g c =
    λ bytes known kind is others told of_file. outside_map c.in-Err.error (λ h. inl h) (c.in-Err.ensures.ground bytes known kind is others told)

pub returns-in-Err-clause-media : goal.returns-in-Err-clause-media
returns-in-Err-clause-media g c =
    record { stays = c.in-Err.ensures.media.stays; quiet = tt; cause = c.in-Err.ensures.media.cause }

pub returns-in-Err-clause-other : goal.returns-in-Err-clause-other
returns-in-Err-clause-other g c =
    record { stays = c.in-Err.ensures.other.stays; quiet = tt; cause = c.in-Err.ensures.other.cause }

pub returns-in-Err-clause-panel : goal.returns-in-Err-clause-panel
returns-in-Err-clause-panel g c =
    hears_failed c.args.judges.now c.ground.new.judges c.in-Err.error (λ qs asks. asks) c.in-Err.ensures.panel

-- ---- what was opened tells its place

pub draft_in_place-requires-clause-within : goal.draft_in_place-requires-clause-within
draft_in_place-requires-clause-within g c = (g.A.Source.len c.args.media.now, c.requires.within)

pub draft_in_place-requires-clause-clears : goal.draft_in_place-requires-clause-clears
draft_in_place-requires-clause-clears g c = c.in-Ok.ensures.some.clears ∙ c.requires.clears

-- ---- a test there fails, or none does

pub returns-clause-drafted : goal.returns-clause-drafted
returns-clause-drafted g c = λ bytes known kind is others told.
    let said = panel_says (map (λ j. (goal.Judge-dyn g (j.vtable, j.value)).says j.value) c.args.judges.now.items) in
    let hash = g.H.Hashing.digest_of in
    let d = c.args.self.now.definition.now in
    let k = c.in-Ok.ground in
    let what = opening_of kind in
    let kept = c.in-Ok.ensures.ground bytes known kind is others told in
    let opened = opened_kind bytes kind is.stage in
    let stage = opened_as bytes kind is.stage in
    let ground = over hash said bytes others what d k kept.0 opened stage kept.1 kept.2 in
    let is_kept = over_kept hash said bytes others what d k kept.0 opened stage kept.1 kept.2 in
    let within =
    subst (λ (n : ℕ). IsWithin n c.args.self.now.file.now.contained.now)
    (sym (g.met.A.Source.known_len c.args.media.now bytes known)) c.requires.within in
    let file : IsOpenedIn bytes c.args.self.now.file.now.contained.now = record { found = is.found; within = within } in
    draft_of hash said bytes others what d k kept.0 opened stage kept.1 kept.2 c.draft_in_place.result
    (IfOk-weaker c.draft_in_place.result _ (λ w. IsDraftedOver (hash (new_alg d)) bytes d w ground) (λ w at. at bytes (hash (new_alg d)) ground file is_kept) c.draft_in_place.ensures.passed)
    (λ of_file. IfErr-weaker c.draft_in_place.result _ (λ e. WithoutFault e (IsRefusedAt ground e)) (λ e refused. refused bytes (hash (new_alg d)) ground file is_kept
    (over_len hash said bytes others what d k kept.0 opened stage kept.1 kept.2 of_file)) c.draft_in_place.ensures.refused)

pub returns-clause-small : goal.returns-clause-small
returns-clause-small g c =
    let d = c.args.self.now.definition.now in
    let h = g.H.Hashing.digest_of (new_alg d) in
    IfOk-weaker c.draft_in_place.result _ _ (λ w small. small (g.A.Source.len c.args.media.now) h c.requires.within (subst (λ (x : Clearing). IsSomeGround h d x c.in-Ok.ground) c.requires.clears c.in-Ok.ensures.some)) c.draft_in_place.ensures.small

pub returns-clause-media : goal.returns-clause-media
returns-clause-media g c =
    reads_then _ _ _ _ _ c.args.media.now c.ground.new.media c.in-Ok.ground c.draft_in_place.result (older_results _ ground_effects _ _ c.draft_in_place.result tt c.in-Ok.ensures.media.quiet c.draft_in_place.ensures.quiet) c.in-Ok.ensures.media

pub returns-clause-other : goal.returns-clause-other
returns-clause-other g c =
    reads_then _ _ _ _ _ c.args.other.now c.ground.new.other c.in-Ok.ground c.draft_in_place.result (older_results _ ground_effects _ _ c.draft_in_place.result tt c.in-Ok.ensures.other.quiet c.draft_in_place.ensures.quiet) c.in-Ok.ensures.other

pub returns-clause-panel : goal.returns-clause-panel
returns-clause-panel g c =
    hears_behind c.args.judges.now c.ground.new.judges c.in-Ok.ground _
    (older_result c.draft_in_place.result c.draft_in_place.ensures.quiet) (λ qs asks. asks) c.in-Ok.ensures.panel
