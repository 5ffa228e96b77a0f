use Rattle.std.proofs.Common.{◌≡◌, length}
use Rattle.c2_without_store.specs.Clears.{clearing_in}
use Rattle.c2_without_store.proofs.clearing.clearing_in.Given as goal

-- the box is among the rows that are left, where it is among all
abbrev pub invariant-loop-rest : goal.invariant-loop-rest
invariant-loop-rest l = clearing_in l.start l.rest ≡ clearing_in l.start l.rows

-- the rows that are left, which get fewer with each one
abbrev pub decreases-loop-rest : goal.decreases-loop-rest
decreases-loop-rest l = length l.rest
