use Rattle.std.proofs.Common.{◌≡◌, ◌++◌, length}
use Rattle.c2_without_store.specs.Clears.{rows_left}
use Rattle.c2_without_store.proofs.leaving.rows_left.Given as goal

-- the rows that were kept, and what is left of the others, are what is left of all
abbrev pub invariant-loop-rest : goal.invariant-loop-rest
invariant-loop-rest l = l.left.items ++ rows_left l.start l.rest ≡ rows_left l.start l.rows

-- the others, which get fewer with each one
abbrev pub decreases-loop-rest : goal.decreases-loop-rest
decreases-loop-rest l = length l.rest
