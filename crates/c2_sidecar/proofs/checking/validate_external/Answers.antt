use Rattle.std.proofs.Common.{IfOk, map, subst, ◌∙◌}
use Rattle.c2_spec.specs.Judges.Panel.{panel_says}
use Rattle.c2_container.specs.declared.types.Container.{Container}
use Rattle.c2_validate.specs.External.{IsListAnswered}
use Rattle.c2_sidecar.proofs.Answering.{due, list_is, list_panel, refused_answer, refused_panel}
use Rattle.c2_sidecar.proofs.Locating.{unrefused}
use Rattle.c2_sidecar.proofs.checking.validate_external.Goals as goal

-- the container is refused
pub returns-in-Err-clause-answer : goal.returns-in-Err-clause-answer
returns-in-Err-clause-answer g c = λ file known bytes where_due.
    refused_answer g.H.Hashing.digest_of (panel_says (map (λ j. (goal.Judge-dyn g (j.vtable, j.value)).says j.value) c.args.judges.now.items)) file bytes c.in-Err.error c.refused.result (c.in-Err.ensures.said file known) c.refused.ensures

pub returns-in-Err-clause-panel : goal.returns-in-Err-clause-panel
returns-in-Err-clause-panel g c =
    refused_panel _ _ _ g.H.Hashing.digest_of (g.S.Source.known c.args.source.now) (g.T.Source.known c.args.store.now) c.args.judges.now c.in-Err.error c.refused.result (λ file known. c.in-Err.ensures.said file known) c.refused.ensures

-- it isn't
pub returns-clause-answer : goal.returns-clause-answer
returns-clause-answer g c = λ file known bytes where_due.
    let said = panel_says (map (λ j. (goal.Judge-dyn g (j.vtable, j.value)).says j.value) c.args.judges.now.items) in
    let contained = c.in-Ok.contained in
    let located = c.in-Ok.ensures.said file known in
    let held = due (g.T.Source.known c.args.store.now) file bytes contained located where_due in
    list_is g.H.Hashing.digest_of said file bytes contained
    c.check_read.result (g.met.S.Source.known_bytes c.args.source.now file known)
    (g.met.T.Source.known_bytes c.args.store.now bytes held) located
    (subst (λ (x : Container). IfOk c.check_read.result (IsListAnswered g.H.Hashing.digest_of said x bytes file)) c.container_of-container.ensures (c.check_read.ensures.answer file (c.in-Ok.ensures.stays.same_bytes ∙ known) bytes held))

pub returns-clause-not_due : goal.returns-clause-not_due
returns-clause-not_due g c =
    λ file known refused. absurd (unrefused file c.in-Ok.contained refused.0 refused.1 (c.in-Ok.ensures.said file known) refused.2)

pub returns-clause-panel : goal.returns-clause-panel
returns-clause-panel g c =
    list_panel _ _ _ g.H.Hashing.digest_of (g.S.Source.known c.args.source.now) (g.T.Source.known c.args.store.now) c.in-Ok.contained c.args.judges.now c.check_read.new.judges c.check_read.result (λ file known. c.in-Ok.ensures.said file known) c.check_read.ensures.panel
