use Rattle.std.proofs.Common.{◌≡◌, ◌||◌, ℕ}
use Rattle.std.specs.Prelude.{All}
use Rattle.std.specs.List.{list_any}
use Rattle.std.specs.Option.{ForSome}
use Rattle.c2_base.specs.Source.{StaysSource}
use Rattle.c2_spec.specs.Cover.{is_excluded}
use Rattle.c2_bmff_excluded.specs.Marks.{IsRangeWithin}
use Rattle.c2_bmff.specs.Trails.{IsLevelWithin, level_ahead, levels_left}
use Rattle.c2_bmff.proofs.walking.walk.Given as goal

-- what the ranges hold and what the lists have ahead is what they held and had
abbrev pub invariant-boxes : goal.invariant-boxes
invariant-boxes g l = record {
  stays : StaysSource g.S.Source.len g.S.Source.known g.S.Source.faults l.initial.source l.source;
  count : g.S.Source.faults l.source ≡ g.S.Source.faults l.initial.source;
  within : All (IsRangeWithin (g.S.Source.len l.initial.source)) l.marking.ranges.items;
  levels : All (IsLevelWithin (g.S.Source.len l.initial.source)) l.levels.items;
  same : ForSome (g.S.Source.known l.initial.source) (λ file. (i : ℕ) → (is_excluded l.marking.ranges.items i || list_any (level_ahead file l.entries i) l.levels.items) ≡ (is_excluded l.initial.marking.ranges.items i || list_any (level_ahead file l.entries i) l.initial.levels.items));
}

-- the boxes that are left, by their lengths, and the lists
abbrev pub decreases-boxes : goal.decreases-boxes
decreases-boxes g l = levels_left l.levels.items
