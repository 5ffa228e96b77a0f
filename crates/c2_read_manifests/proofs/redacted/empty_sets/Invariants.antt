use Rattle.c2_read_manifests.specs.Redacted.{AreNone}
use Rattle.c2_read_manifests.proofs.redacted.empty_sets.Given as goal

-- so far there are `k` sets, with no label in them
abbrev pub invariant-loop-k : goal.invariant-loop-k
invariant-loop-k l = AreNone l.k l.sets.items
