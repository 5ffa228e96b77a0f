use Rattle.std.proofs.Common.{List, map, sym, subst, ◌∙◌}
use Rattle.c2_spec.specs.Judges.Panel.{panel_says}
use Rattle.c2_rules.specs.Readings.{Reading}
use Rattle.c2_compare_spec.specs.declared.compared.Side.TheVariants.{Second}
use Rattle.c2_compare_opened.specs.Sides.{IsCompareSide}
use Rattle.c2_compare.proofs.Answering.{ended_second}
use Rattle.c2_compare.proofs.Ending.{leaves_on_second, leaves_second, leaves_unjudged}
use Rattle.c2_compare.proofs.Hearing.{hears_on, hears_second}
use Rattle.c2_compare.proofs.comparing.Beside.check_second.Goals as goal

-- ---- both files are accepted

pub compare_stores-requires-clause-other_size : goal.compare_stores-requires-clause-other_size
compare_stores-requires-clause-other_size g c = c.in-Ok.ensures.reads.stays.same_len ∙ sym c.in-Ok.ensures.size

pub returns-clause-compared : goal.returns-clause-compared
returns-clause-compared g c = λ a known b known'.
    let said = panel_says (map (λ j. (goal.Judge-dyn g (j.vtable, j.value)).says j.value) c.args.judges.now.items) in
    let hash = g.H.Hashing.digest_of in
    c.compare_stores.ensures.compared a known b (c.in-Ok.ensures.reads.stays.same_bytes ∙ known') hash said (c.requires.side a known)
    (subst (λ (rs : List Reading). IsCompareSide hash said b rs c.in-Ok.found.text c.in-Ok.found.summary) (sym c.readings.ensures) (c.in-Ok.ensures.side b known'))

pub returns-clause-leaves : goal.returns-clause-leaves
returns-clause-leaves g c =
    leaves_on_second c.args.first.now c.compare_stores.new.first c.args.second.now c.accept.new.source
    c.compare_stores.new.second c.args.report.now c.compare_stores.new.report c.compare_stores.result
    c.in-Ok.ensures.reads.stays c.in-Ok.ensures.reads.quiet
    (leaves_unjudged c.args.first.now c.compare_stores.new.first c.accept.new.source c.compare_stores.new.second c.args.report.now c.compare_stores.new.report c.compare_stores.result
    c.compare_stores.ensures.errors c.compare_stores.ensures.first c.compare_stores.ensures.second c.compare_stores.ensures.report)

pub returns-clause-panel : goal.returns-clause-panel
returns-clause-panel g c =
    hears_on c.args.judges.now c.accept.new.judges c.in-Ok.found c.compare_stores.result c.compare_stores.ensures.errors
    c.in-Ok.ensures.panel

-- ---- the second isn't, or the call fails

pub returns-in-Err-clause-compared : goal.returns-in-Err-clause-compared
returns-in-Err-clause-compared g c = λ a known b known'.
    let said = panel_says (map (λ j. (goal.Judge-dyn g (j.vtable, j.value)).says j.value) c.args.judges.now.items) in
    let side = c.requires.side a known in
    ended_second g.H.Hashing.digest_of said a b side.store side.accepted c.in-Err.unaccepted (g.W.Sink.written c.args.report.now) c.end.result c.end.ensures (c.in-Err.ensures.refused b known')

pub returns-in-Err-clause-leaves : goal.returns-in-Err-clause-leaves
returns-in-Err-clause-leaves g c =
    leaves_second c.args.first.now c.args.second.now c.accept.new.source c.args.report.now Second c.in-Err.unaccepted c.end.result (λ h. h) c.end.ensures c.in-Err.ensures.reads

pub returns-in-Err-clause-panel : goal.returns-in-Err-clause-panel
returns-in-Err-clause-panel g c =
    hears_second Second c.args.judges.now c.accept.new.judges c.in-Err.unaccepted c.end.result c.end.ensures
    c.in-Err.ensures.panel
