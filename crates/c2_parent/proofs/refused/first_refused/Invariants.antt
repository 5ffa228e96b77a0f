use Rattle.c2_parent.specs.Refused.{PassSoFar}
use Rattle.c2_parent.proofs.refused.first_refused.Given as goal

-- the first `k` redactions aren't refused
abbrev pub invariant-loop-k : goal.invariant-loop-k
invariant-loop-k l = PassSoFar l.own l.known l.redact l.k l.before
