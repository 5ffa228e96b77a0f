use Rattle.c2_jumbf.specs.Labels.{marks, LeastRepeated}
use Rattle.c2_jumbf.proofs.labels.least_repeated.Given as goal

abbrev pub invariant-loop-i : goal.invariant-loop-i
invariant-loop-i l = LeastRepeated (marks l.sorted) l.i l.least
