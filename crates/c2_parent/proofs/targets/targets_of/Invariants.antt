use Rattle.std.proofs.Common.{◌≡◌, take}
use Rattle.c2_parent.proofs.targets.targets_of.Given as goal

-- the first `k` manifests
abbrev pub invariant-loop-k : goal.invariant-loop-k
invariant-loop-k l = l.found.items ≡ take l.k l.kept
