use Rattle.c2_parent.specs.Refused.{AreUnsigned}
use Rattle.c2_parent.proofs.unsigned.unsigned_labels.Given as goal

-- the labels that boxes of the first `n` manifests name so
abbrev pub invariant-loop-n : goal.invariant-loop-n
invariant-loop-n l = AreUnsigned l.all l.n l.labels
