use Rattle.std.proofs.Common.{◌-◌}
use Rattle.c2_jumbf.proofs.ChildSteps.{Sought}
use Rattle.c2_jumbf.proofs.children.labelled_child.Given as goal

abbrev pub invariant-loop-at : goal.invariant-loop-at
invariant-loop-at l = Sought l.tree l.i l.end l.label l.at

abbrev pub decreases-loop-at : goal.decreases-loop-at
decreases-loop-at l = l.end - l.at
