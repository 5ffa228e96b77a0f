use Rattle.c2_jumbf.proofs.ChildSteps.{AtChild}
use Rattle.c2_jumbf.proofs.children.child.Given as goal

abbrev pub invariant-loop-turn : goal.invariant-loop-turn
invariant-loop-turn l = AtChild l.tree l.i l._turn l.end l.at
