use Rattle.c2_read_manifests.specs.Rows.{AreRowsBelow}
use Rattle.c2_read_manifests.proofs.rows.fill_rows.Given as goal

-- the rows so far say what is reached from the first `n` manifests
abbrev pub invariant-loop-n : goal.invariant-loop-n
invariant-loop-n l = AreRowsBelow l.all l.n l.rows.items
