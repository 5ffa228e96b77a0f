use Rattle.std.proofs.Common.{length}
use Rattle.c2_spec.specs.Jumbf.Boxes.{path_labels}
use Rattle.c2_jumbf.proofs.Leading.{Walked}
use Rattle.c2_jumbf.proofs.children.find.Given as goal

abbrev pub invariant-loop-label : goal.invariant-loop-label
invariant-loop-label l =
    record
    { can : (goal.iterator-loop-label).can_next l.label-iterator; ends : (goal.iterator-loop-label).is_finite l.label-iterator; walked : Walked l.tree l.start (path_labels l.path) (length l.yielded) l.at }
