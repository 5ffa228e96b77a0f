use Rattle.std.proofs.Common.{take}
use Rattle.c2_parent.specs.Named.{AreNamed}
use Rattle.c2_parent.proofs.carried.names_of.Given as goal

-- so far they are those that the first `k` texts name
abbrev pub invariant-loop-k : goal.invariant-loop-k
invariant-loop-k l = AreNamed (take l.k l.texts) l.named
