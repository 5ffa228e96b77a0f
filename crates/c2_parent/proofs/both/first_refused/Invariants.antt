use Rattle.c2_parent.specs.Both.{PassBothSoFar}
use Rattle.c2_parent.proofs.both.first_refused.Given as goal

-- the first `k` redactions aren't refused
abbrev pub invariant-loop-k : goal.invariant-loop-k
invariant-loop-k l = PassBothSoFar l.own l.old l.other l.redact l.k l.before
