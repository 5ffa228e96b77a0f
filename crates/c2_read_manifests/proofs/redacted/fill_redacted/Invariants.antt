use Rattle.c2_read_manifests.specs.Redacted.{AreRedactedBelow}
use Rattle.c2_read_manifests.proofs.redacted.fill_redacted.Given as goal

-- the sets have what is redacted by the first `n` manifests
abbrev pub invariant-loop-n : goal.invariant-loop-n
invariant-loop-n l = AreRedactedBelow l.all l.n l.sets.items
