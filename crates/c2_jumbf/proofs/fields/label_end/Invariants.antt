use Rattle.std.proofs.Common.{◌<◌, ℕ, slice_index}
use Rattle.c2_spec.specs.Jumbf.Tree.{IsLabelByte}
use Rattle.c2_jumbf.proofs.fields.label_end.Given as goal

abbrev pub invariant-loop-i : goal.invariant-loop-i
invariant-loop-i l = (k : ℕ) → k < l.i → IsLabelByte (slice_index l.bytes k)
