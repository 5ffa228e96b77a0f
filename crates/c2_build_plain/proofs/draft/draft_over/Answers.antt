use Rattle.std.proofs.Common.{inl, map, sym, ◌∙◌, subst, ℕ}
use Rattle.std.proofs.lemmas.Result.{IfErr-weaker, IfOk-weaker}
use Rattle.c2_spec.specs.Judges.Panel.{panel_says}
use Rattle.c2_calls_spec.proofs.SourceLemmas.{reads_then}
use Rattle.c2_container.specs.Contained.{IsWithin}
use Rattle.c2_new_file_spec.specs.Store.{new_alg}
use Rattle.c2_without_store.specs.declared.clearing.Clearing.{Clearing}
use Rattle.c2_build_refusals.specs.Kinds.{judge_effects}
use Rattle.c2_build_refusals.proofs.Judged.{hears_behind, hears_failed, older_result}
use Rattle.c2_build_refusals.proofs.Outside.{older_results, outside_map}
use Rattle.c2_build_base.specs.Grounds.{IsSomeGround}
use Rattle.c2_build_plain.proofs.Placed.{place_passed, place_refused}
use Rattle.c2_build_plain.proofs.Short.{ground_len}
use Rattle.c2_build_plain.proofs.draft.draft_over.Goals as goal

-- what it is built over is refused
pub returns-in-Err-clause-refused : goal.returns-in-Err-clause-refused
returns-in-Err-clause-refused g c =
    λ bytes known kind is of_file. outside_map c.in-Err.error (λ h. inl h) (c.in-Err.ensures.ground bytes known kind is)

pub returns-in-Err-clause-reads : goal.returns-in-Err-clause-reads
returns-in-Err-clause-reads g c =
    record { stays = c.in-Err.ensures.reads.stays; quiet = tt; cause = c.in-Err.ensures.reads.cause }

pub returns-in-Err-clause-panel : goal.returns-in-Err-clause-panel
returns-in-Err-clause-panel g c =
    hears_failed c.args.judges.now c.grounded.new.judges c.in-Err.error (λ qs asks. asks) c.in-Err.ensures.panel

-- ---- what was opened tells its place

pub draft_in_place-requires-clause-within : goal.draft_in_place-requires-clause-within
draft_in_place-requires-clause-within g c = (g.A.Source.len c.args.media.now, c.requires.within)

pub draft_in_place-requires-clause-clears : goal.draft_in_place-requires-clause-clears
draft_in_place-requires-clause-clears g c = c.in-Ok.ensures.some.clears ∙ c.requires.clears

-- a test there fails
pub returns-clause-refused : goal.returns-clause-refused
returns-clause-refused g c = IfErr-weaker c.draft_in_place.result _ _ (λ e refused bytes known kind is of_file.
    let said = panel_says (map (λ j. (goal.Judge-dyn g (j.vtable, j.value)).says j.value) c.args.judges.now.items) in
    let hash = g.H.Hashing.digest_of in
    let d = c.args.definition.now in
    let over = c.in-Ok.ensures.ground bytes known kind is in
    let within =
    subst (λ (n : ℕ). IsWithin n c.args.file.now.contained.now)
    (sym (g.met.A.Source.known_len c.args.media.now bytes known)) c.requires.within in
    outside_map e (place_refused hash said bytes d kind over.0 e over.1) (refused bytes (hash (new_alg d)) over.0 (record { found = is.found; within = within }) over.2
    (λ s. ground_len hash said bytes d kind over.0 s of_file is.stage over.1))) c.draft_in_place.ensures.refused

-- no test fails
pub returns-clause-passed : goal.returns-clause-passed
returns-clause-passed g c = IfOk-weaker c.draft_in_place.result _ _ (λ w drafted bytes known kind is.
    let said = panel_says (map (λ j. (goal.Judge-dyn g (j.vtable, j.value)).says j.value) c.args.judges.now.items) in
    let hash = g.H.Hashing.digest_of in
    let d = c.args.definition.now in
    let over = c.in-Ok.ensures.ground bytes known kind is in
    let within =
    subst (λ (n : ℕ). IsWithin n c.args.file.now.contained.now)
    (sym (g.met.A.Source.known_len c.args.media.now bytes known)) c.requires.within in
    place_passed hash said bytes d kind w over.0 over.1 (drafted bytes (hash (new_alg d)) over.0 (record { found = is.found; within = within }) over.2)) c.draft_in_place.ensures.passed

pub returns-clause-small : goal.returns-clause-small
returns-clause-small g c =
    let d = c.args.definition.now in
    let h = g.H.Hashing.digest_of (new_alg d) in
    IfOk-weaker c.draft_in_place.result _ _ (λ w small. small (g.A.Source.len c.args.media.now) h c.requires.within (subst (λ (x : Clearing). IsSomeGround h d x c.in-Ok.ground) c.requires.clears c.in-Ok.ensures.some)) c.draft_in_place.ensures.small

pub returns-clause-reads : goal.returns-clause-reads
returns-clause-reads g c =
    reads_then _ _ _ _ _ c.args.media.now c.grounded.new.media c.in-Ok.ground c.draft_in_place.result (older_results _ judge_effects _ _ c.draft_in_place.result tt c.in-Ok.ensures.reads.quiet c.draft_in_place.ensures.quiet) c.in-Ok.ensures.reads

pub returns-clause-panel : goal.returns-clause-panel
returns-clause-panel g c =
    hears_behind c.args.judges.now c.grounded.new.judges c.in-Ok.ground _
    (older_result c.draft_in_place.result c.draft_in_place.ensures.quiet) (λ qs asks. asks) c.in-Ok.ensures.panel
