use Rattle.c2_definition.proofs.LabelSteps.{Behind}
use Rattle.c2_definition.proofs.differing.labels_differ.Given as goal

-- the labels from here on were looked up
abbrev pub invariant-loop-i : goal.invariant-loop-i
invariant-loop-i l = Behind l.list l.i l.behind

-- one less at each step
abbrev pub decreases-loop-i : goal.decreases-loop-i
decreases-loop-i l = l.i
