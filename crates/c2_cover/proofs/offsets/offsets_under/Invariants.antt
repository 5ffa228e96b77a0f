use Rattle.c2_cover.specs.Telling.{TellsTo}
use Rattle.c2_cover.proofs.offsets.offsets_under.Given as goal

-- the box offsets of the root boxes so far are made, and from `low` on the ranges ahead are all that the others can meet
abbrev pub invariant-loop-row : goal.invariant-loop-row
invariant-loop-row l = TellsTo l.cover.size l.cover.ranges l.rows l.row-index l.ranges_left l.low l.offsets.items
