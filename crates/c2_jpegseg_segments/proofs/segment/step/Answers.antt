use Rattle.std.proofs.Common.{sym, subst, None, Some, true}
use Rattle.c2_jpegseg_segments.specs.Runs.{all_collected, collected, RunGoes}
use Rattle.c2_jpegseg_segments.specs.Walks.{Stands}
use Rattle.c2_jpegseg_segments.proofs.segment.step.Goals as goal

pub returns-in-Some-2-clause-ok : goal.returns-in-Some-2-clause-ok
returns-in-Some-2-clause-ok c = λ file s.
    let here : Stands file c.args.at c.args.end c.args.packet None =
    subst (λ r. Stands file c.args.at c.args.end c.args.packet (all_collected r)) c.in_default.is s in
    let ok = rw c.in-Some-2.is at c.in_ok-started.ensures.ok in
    ok file here

-- a store begins
pub returns-in-Some-2-clause-goes : goal.returns-in-Some-2-clause-goes
returns-in-Some-2-clause-goes c =
    let from = rw c.in-Some-2.is at c.in_ok-started.ensures.from in
    subst (λ r. RunGoes true c.args.at c.args.end (all_collected r) (Some (collected c.in-Some-2.started))) (sym c.in_default.is) from
