use Rattle.std.proofs.Common.{◌≡◌, ◌-◌, take}
use Rattle.std.specs.Prelude.{sum_by}
use Rattle.c2_assertion.specs.Written.{range_width}
use Rattle.c2_assertion.proofs.data_written.padding.Given as goal

-- what the first ranges leave
abbrev pub invariant-loop-range : goal.invariant-loop-range
invariant-loop-range l = l.left ≡ 18 - sum_by range_width (take l.range-index l.ranges)
