use Rattle.c2_collect.specs.Carried.{AreCarried}
use Rattle.c2_collect.proofs.carrying.carried_of.Given as goal

-- the flags of the first `i` manifests
abbrev pub invariant-loop-i : goal.invariant-loop-i
invariant-loop-i l = AreCarried l.old l.other l.flags.items l.i
