use Rattle.std.proofs.Common.{List, map, sym, subst, ◌∙◌}
use Rattle.c2_base.specs.declared.values.Question.{Question}
use Rattle.c2_spec.specs.Judges.Panel.{panel_says}
use Rattle.c2_spec.specs.declared.panel.Verdict.{Verdict}
use Rattle.c2_rules.specs.Readings.{Reading}
use Rattle.c2_compare_spec.specs.declared.compared.Side.TheVariants.{First}
use Rattle.c2_validate.specs.Checked.{readings_of}
use Rattle.c2_compare_opened.specs.Comparing.{IsComparedAs}
use Rattle.c2_compare_opened.specs.Sides.{IsCompareSide}
use Rattle.c2_compare.proofs.Answering.{ended_first}
use Rattle.c2_compare.proofs.Ending.{leaves_first, leaves_on_first}
use Rattle.c2_compare.proofs.Files.{not_refused}
use Rattle.c2_compare.proofs.Hearing.{hears_both, hears_first, told_where_due}
use Rattle.c2_compare.proofs.comparing.Checker.check_first.Goals as goal

-- ---- the first file is accepted

pub find_second-requires-clause-size : goal.find_second-requires-clause-size
find_second-requires-clause-size g c = c.in-Ok.ensures.reads.stays.same_len ∙ sym c.in-Ok.ensures.size

pub find_second-requires-clause-side : goal.find_second-requires-clause-side
find_second-requires-clause-side g c = λ a known.
    let hash = g.H.Hashing.digest_of in
    let moved =
    subst
    (λ (said : List (Question → Verdict)). IsCompareSide hash (panel_says said) a (readings_of c.args.one.now) c.in-Ok.found.text c.in-Ok.found.summary)
    (sym c.in-Ok.ensures.panel.stays.same)
    (c.in-Ok.ensures.side a (sym c.in-Ok.ensures.reads.stays.same_bytes ∙ known)) in
    subst (λ (rs : List Reading). IsCompareSide hash (panel_says (map (λ j. (goal.Judge-dyn g (j.vtable, j.value)).says j.value) c.accept.new.judges.items)) a rs c.in-Ok.found.text c.in-Ok.found.summary) (sym c.readings.ensures) moved

pub returns-clause-compared : goal.returns-clause-compared
returns-clause-compared g c = λ a known b due.
    let said = panel_says (map (λ j. (goal.Judge-dyn g (j.vtable, j.value)).says j.value) c.args.judges.now.items) in
    let hash = g.H.Hashing.digest_of in
    let side = c.in-Ok.ensures.side a known in
    let told = told_where_due hash said a side.store side.accepted (g.B.Source.known c.args.second.now) b due in
    subst (λ (x : List (Question → Verdict)). IsComparedAs hash (panel_says x) a b (g.W.Sink.written c.args.report.now) (g.W.Sink.written c.find_second.new.report) c.find_second.result) c.in-Ok.ensures.panel.stays.same
    (c.find_second.ensures.compared a (c.in-Ok.ensures.reads.stays.same_bytes ∙ known) b told)

pub returns-clause-not_due : goal.returns-clause-not_due
returns-clause-not_due g c = λ a known refused.
    let said = panel_says (map (λ j. (goal.Judge-dyn g (j.vtable, j.value)).says j.value) c.args.judges.now.items) in
    let side = c.in-Ok.ensures.side a known in
    not_refused g.H.Hashing.digest_of said a side.store side.accepted refused.0 refused.1

pub returns-clause-leaves : goal.returns-clause-leaves
returns-clause-leaves g c =
    leaves_on_first c.args.first.now c.accept.new.source c.find_second.new.first c.args.second.now
    c.find_second.new.second c.args.report.now c.find_second.new.report c.find_second.result
    c.in-Ok.ensures.reads.stays c.in-Ok.ensures.reads.quiet c.find_second.ensures.leaves

pub returns-clause-panel : goal.returns-clause-panel
returns-clause-panel g c =
    hears_both g.H.Hashing.digest_of (g.A.Source.known c.args.first.now) (g.B.Source.known c.args.second.now) c.args.judges.now c.accept.new.judges c.find_second.new.judges c.in-Ok.found
    (λ file known. let side = c.in-Ok.ensures.side file known in (side.store, side.accepted)) c.in-Ok.ensures.panel c.find_second.result c.find_second.ensures.panel

-- ---- it isn't, or the call fails

pub returns-in-Err-clause-compared : goal.returns-in-Err-clause-compared
returns-in-Err-clause-compared g c = λ a known b due.
    let said = panel_says (map (λ j. (goal.Judge-dyn g (j.vtable, j.value)).says j.value) c.args.judges.now.items) in
    ended_first g.H.Hashing.digest_of said a b c.in-Err.unaccepted (g.W.Sink.written c.args.report.now) c.end.result c.end.ensures (c.in-Err.ensures.refused a known)

pub returns-in-Err-clause-leaves : goal.returns-in-Err-clause-leaves
returns-in-Err-clause-leaves g c =
    leaves_first c.args.first.now c.accept.new.source c.args.second.now c.args.report.now First c.in-Err.unaccepted c.end.result (λ h. h) c.end.ensures c.in-Err.ensures.reads

pub returns-in-Err-clause-panel : goal.returns-in-Err-clause-panel
returns-in-Err-clause-panel g c =
    hears_first g.H.Hashing.digest_of (g.A.Source.known c.args.first.now) (g.B.Source.known c.args.second.now) c.args.judges.now c.accept.new.judges c.in-Err.unaccepted c.end.result c.end.ensures
    (λ file known. c.in-Err.ensures.refused file known) c.in-Err.ensures.panel
