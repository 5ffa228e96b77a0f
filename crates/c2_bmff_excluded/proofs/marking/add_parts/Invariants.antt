use Rattle.std.proofs.Common.{◌≡◌, ◌||◌, ◌+◌, ◌≤◌, ℕ, take}
use Rattle.std.specs.Prelude.{All}
use Rattle.std.specs.List.{list_any}
use Rattle.c2_spec.specs.Cover.{is_excluded}
use Rattle.c2_bmff_excluded.specs.Marks.{IsRangeWithin, in_row_part}
use Rattle.c2_bmff_excluded.proofs.marking.add_parts.Given as goal

-- the ranges hold what they did and the parts so far, and none ends after the old ones and the box do
abbrev pub invariant-loop-part : goal.invariant-loop-part
invariant-loop-part l = record {
  same : (i : ℕ)
      → is_excluded l.ranges.items i ≡ (is_excluded l.initial.ranges.items i || list_any (in_row_part i l.row) (take l.part-index l.parts));
  within : (n : ℕ) → All (IsRangeWithin n) l.initial.ranges.items → l.row.start + l.row.length ≤ n
      → All (IsRangeWithin n) l.ranges.items;
}
