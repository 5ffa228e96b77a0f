use Rattle.c2_read_manifests.specs.Redacted.{AreTouchedBelow}
use Rattle.c2_read_manifests.proofs.redacted.fill_touched.Given as goal

-- so far it is known of the first `m` manifests which are touched
abbrev pub invariant-loop-m : goal.invariant-loop-m
invariant-loop-m l = AreTouchedBelow l.all l.m l.touched.items
