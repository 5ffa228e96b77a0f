use Rattle.std.proofs.Common.{◌≡◌, length}
use Rattle.c2_cover.specs.Telling.{ending_after}
use Rattle.c2_cover.proofs.offsets.from_end_after.Given as goal

-- the ranges that were passed end before it
abbrev pub invariant-passed : goal.invariant-passed
invariant-passed l = ending_after l.at l.ranges_left ≡ ending_after l.at l.ranges

-- the ranges that aren't passed
abbrev pub decreases-passed : goal.decreases-passed
decreases-passed l = length l.ranges_left
