use Rattle.std.proofs.Common.{◌+◌, ◌-◌, ◌*◌, length}
use Rattle.c2_jumbf.specs.Labels.{marked}
use Rattle.c2_jumbf.proofs.Trees.{Filled}
use Rattle.c2_jumbf.proofs.reading.+tree.Given as goal

abbrev pub decreases-tree_at : goal.decreases-tree_at
decreases-tree_at l = 2 * (18 - l.depth)

abbrev pub decreases-trees_in : goal.decreases-trees_in
decreases-trees_in l = 2 * (18 - l.depth) + 1

-- the trees so far stand in front of the place
abbrev pub invariant-trees_in-loop-from : goal.invariant-trees_in-loop-from
invariant-trees_in-loop-from l = Filled l.depth l.at l.payload l.from (marked l.siblings) l.fn.rows.items l.rows.items

abbrev pub decreases-trees_in-loop-from : goal.decreases-trees_in-loop-from
decreases-trees_in-loop-from l = length l.payload - l.from
