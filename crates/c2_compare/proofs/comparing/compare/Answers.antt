use Rattle.std.proofs.Common.{map}
use Rattle.c2_spec.specs.Judges.Panel.{panel_says}
use Rattle.c2_compare.proofs.Answering.{compared_as}
use Rattle.c2_compare.proofs.comparing.compare.Goals as goal

-- the files come to one thing
pub returns-clause-compared : goal.returns-clause-compared
returns-clause-compared g c = λ a known b due.
    let said = panel_says (map (λ j. (goal.Judge-dyn g (j.vtable, j.value)).says j.value) c.args.judges.now.items) in
    let hash = g.H.Hashing.digest_of in
    compared_as hash said a b (g.W.Sink.written c.args.report.now) (g.W.Sink.written c.find_first.new.report) c.find_first.result
    (c.find_first.ensures.compared a known b due)

-- what is left of the sources and the report
pub returns-clause-first : goal.returns-clause-first
returns-clause-first g c = c.find_first.ensures.leaves.first

pub returns-clause-second : goal.returns-clause-second
returns-clause-second g c = c.find_first.ensures.leaves.second

pub returns-clause-report : goal.returns-clause-report
returns-clause-report g c = c.find_first.ensures.leaves.report

pub returns-clause-judged : goal.returns-clause-judged
returns-clause-judged g c = c.find_first.ensures.leaves.judged
