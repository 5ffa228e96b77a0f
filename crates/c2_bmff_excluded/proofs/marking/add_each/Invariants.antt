use Rattle.std.proofs.Common.{◌≡◌, ◌||◌, ◌<◌, ℕ, [], length, take, get_or}
use Rattle.std.specs.Prelude.{All}
use Rattle.c2_base.specs.declared.values.Range.{Range}
use Rattle.c2_spec.specs.Cover.{is_excluded}
use Rattle.c2_bmff_excluded.specs.Marks.{AreApart, IsRangeWithin}
use Rattle.c2_bmff_excluded.specs.Parts.{AreRising, StartsBy}
use Rattle.c2_bmff_excluded.proofs.marking.add_each.Given as goal

-- the ranges hold what they did and the others so far, and none ends after all of them do; added to none in order, they are apart, and begin
-- no later than any that follows
abbrev pub invariant-loop-other : goal.invariant-loop-other
invariant-loop-other l = record {
  same : (i : ℕ)
      → is_excluded l.ranges.items i ≡ (is_excluded l.initial.ranges.items i || is_excluded (take l.other-index l.others) i);
  within : (n : ℕ) → All (IsRangeWithin n) l.initial.ranges.items → All (IsRangeWithin n) l.others
      → All (IsRangeWithin n) l.ranges.items;
  apart : AreRising l.others → l.initial.ranges.items ≡ [] → AreApart 0 l.ranges.items;
  below : AreRising l.others → l.initial.ranges.items ≡ [] → (d : Range) → l.other-index < length l.others
      → All (StartsBy (get_or l.others l.other-index d).start) l.ranges.items;
}
