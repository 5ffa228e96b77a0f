use Rattle.std.proofs.Common.{◌-◌}
use Rattle.c2_store.proofs.Gathering.{Gathered}
use Rattle.c2_store.proofs.boxes.superboxes.Given as goal

abbrev pub invariant-loop-at : goal.invariant-loop-at
invariant-loop-at l = Gathered l.tree l.i l.end l.at l.found.items

abbrev pub decreases-loop-at : goal.decreases-loop-at
decreases-loop-at l = l.end - l.at
