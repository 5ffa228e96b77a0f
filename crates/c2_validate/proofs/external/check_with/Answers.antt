use Rattle.std.proofs.Common.{◌<◌, ◌^◌, arith, map, subst, ◌∙◌}
use Rattle.std.proofs.lemmas.List.Elements.{All-from_get_or}
use Rattle.c2_spec.specs.Judges.Panel.{panel_says}
use Rattle.c2_calls_spec.specs.Asks.{AsksKnown}
use Rattle.c2_calls_spec.proofs.PanelLemmas.{hears_early, hears_nobody, hears_same}
use Rattle.c2_opening.specs.Opened.{IsFound}
use Rattle.c2_opening.specs.declared.types.Opened.TheVariants as opened
use Rattle.c2_validate.specs.External.{ExternalAsks, ListAsks}
use Rattle.c2_validate.specs.Checked.{validate_heard}
use Rattle.c2_validate.proofs.ExternalLemmas.{asks_found, external_here, external_none, external_refused}
use Rattle.c2_validate.proofs.CheckLemmas.{part_heard}
use Rattle.c2_validate.proofs.external.check_with.Goals as goal

-- ---- the source failed, or memory ran out

pub returns-in-Err-clause-panel : goal.returns-in-Err-clause-panel
returns-in-Err-clause-panel g c =
    hears_early _ _ _ validate_heard
    (AsksKnown (g.S.Source.known c.args.source.now) (ExternalAsks g.H.Hashing.digest_of c.args.store.now))
    c.args.judges.now c.in-Err.error (part_heard _ _ c.in-Err.error c.in-Err.ensures.cause)

-- ---- the file has a store, which passes

pub returns-in-Here-clause-answer : goal.returns-in-Here-clause-answer
returns-in-Here-clause-answer g c = λ file known.
    external_here g.H.Hashing.digest_of
    (panel_says (map (λ j. (goal.Judge-dyn g (j.vtable, j.value)).says j.value) c.args.judges.now.items)) file
    c.args.store.now c.in-Here.media c.check_external.result (g.met.S.Source.known_bytes c.args.source.now file known)
    (All-from_get_or (λ b. b < 2 ^ 8) c.args.store.now 0 (λ i lt. omega (arith, c.type_inv.store i)))
    (subst (IsFound file) c.in-Here.is (c.in-Ok.ensures.found file known)) (c.check_external.ensures.answer file (c.in-Ok.ensures.stays.same_bytes ∙ known))

pub returns-in-Here-clause-panel : goal.returns-in-Here-clause-panel
returns-in-Here-clause-panel g c =
    hears_same _ _ _ validate_heard
    (AsksKnown (g.S.Source.known c.args.source.now) (ExternalAsks g.H.Hashing.digest_of c.args.store.now))
    (ListAsks g.H.Hashing.digest_of c.args.store.now) c.args.judges.now c.check_external.new.judges
    c.check_external.result
    (λ qs asks. asks_found g.H.Hashing.digest_of c.args.store.now asks.0
    (panel_says (map (λ j. (goal.Judge-dyn g (j.vtable, j.value)).says j.value) c.args.judges.now.items))
    (opened.Here c.in-Here.media) qs (subst (IsFound asks.0) c.in-Here.is (c.in-Ok.ensures.found asks.0 asks.1)) asks.2)
    c.check_external.ensures.panel

-- ---- it has none

pub returns-in-NoStore-clause-answer : goal.returns-in-NoStore-clause-answer
returns-in-NoStore-clause-answer g c = λ file known.
    external_none g.H.Hashing.digest_of
    (panel_says (map (λ j. (goal.Judge-dyn g (j.vtable, j.value)).says j.value) c.args.judges.now.items)) file
    c.args.store.now c.in-NoStore.container c.check_external-in-NoStore.result
    (g.met.S.Source.known_bytes c.args.source.now file known)
    (All-from_get_or (λ b. b < 2 ^ 8) c.args.store.now 0 (λ i lt. omega (arith, c.type_inv.store i)))
    (subst (IsFound file) c.in-NoStore.is (c.in-Ok.ensures.found file known)) (c.check_external-in-NoStore.ensures.answer file (c.in-Ok.ensures.stays.same_bytes ∙ known))

pub returns-in-NoStore-clause-panel : goal.returns-in-NoStore-clause-panel
returns-in-NoStore-clause-panel g c =
    hears_same _ _ _ validate_heard (AsksKnown (g.S.Source.known c.args.source.now) (ExternalAsks g.H.Hashing.digest_of c.args.store.now)) (ListAsks g.H.Hashing.digest_of c.args.store.now) c.args.judges.now c.check_external-in-NoStore.new.judges c.check_external-in-NoStore.result
    (λ qs asks. asks_found g.H.Hashing.digest_of c.args.store.now asks.0
    (panel_says (map (λ j. (goal.Judge-dyn g (j.vtable, j.value)).says j.value) c.args.judges.now.items))
    (opened.NoStore c.in-NoStore.container) qs (subst (IsFound asks.0) c.in-NoStore.is
    (c.in-Ok.ensures.found asks.0 asks.1)) asks.2) c.check_external-in-NoStore.ensures.panel

-- ---- it is refused

pub returns-in-Refused-clause-answer : goal.returns-in-Refused-clause-answer
returns-in-Refused-clause-answer g c = λ file known.
    external_refused g.H.Hashing.digest_of
    (panel_says (map (λ j. (goal.Judge-dyn g (j.vtable, j.value)).says j.value) c.args.judges.now.items)) file
    c.args.store.now c.in-Refused.reason c.in-Refused.number (g.met.S.Source.known_bytes c.args.source.now file known)
    (All-from_get_or (λ b. b < 2 ^ 8) c.args.store.now 0 (λ i lt. omega (arith, c.type_inv.store i)))
    (subst (IsFound file) c.in-Refused.is (c.in-Ok.ensures.found file known))

pub returns-in-Refused-clause-panel : goal.returns-in-Refused-clause-panel
returns-in-Refused-clause-panel g c =
    hears_nobody _ _ _ validate_heard
    (AsksKnown (g.S.Source.known c.args.source.now) (ExternalAsks g.H.Hashing.digest_of c.args.store.now))
    c.args.judges.now _
    (λ qs asks. asks_found g.H.Hashing.digest_of c.args.store.now asks.0
    (panel_says (map (λ j. (goal.Judge-dyn g (j.vtable, j.value)).says j.value) c.args.judges.now.items))
    (opened.Refused c.in-Refused.reason c.in-Refused.number) qs
    (subst (IsFound asks.0) c.in-Refused.is (c.in-Ok.ensures.found asks.0 asks.1)) asks.2)
