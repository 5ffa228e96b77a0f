use Rattle.std.proofs.Common.{◌≡◌, ◌≤◌, drop}
use Rattle.c2_spec.specs.Cover.{bad_range}
use Rattle.c2_cover.specs.Refused.{bad_from}
use Rattle.c2_cover.proofs.cover.check_ranges.Given as goal

-- the ranges before this one are right, and the last of them ends here
abbrev pub invariant-loop-index : goal.invariant-loop-index
invariant-loop-index l = record {
  inside : l.end ≤ l.size;
  others : bad_from l.size l.end l.index (drop l.index l.ranges) ≡ bad_range l.size l.ranges;
}
