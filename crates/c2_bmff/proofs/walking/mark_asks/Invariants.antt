use Rattle.std.proofs.Common.{◌≡◌, ◌≤◌, ◌||◌, ℕ, length, take}
use Rattle.std.specs.Prelude.{All}
use Rattle.std.specs.List.{list_any}
use Rattle.std.specs.Option.{ForSome}
use Rattle.c2_base.specs.Source.{StaysSource}
use Rattle.c2_spec.specs.Cover.{is_excluded}
use Rattle.c2_spec.specs.Bmff.Hash.{Exclusion}
use Rattle.c2_bmff_excluded.specs.Marks.{IsFront, IsRangeWithin, marks}
use Rattle.c2_bmff.proofs.walking.mark_asks.Given as goal

-- the ranges hold what they held and what the exclusions so far exclude, and lie inside the source; the bytes that were read are the
-- box's first
abbrev pub invariant-loop-ask : goal.invariant-loop-ask
invariant-loop-ask g l = record {
  stays : StaysSource g.S.Source.len g.S.Source.known g.S.Source.faults l.initial.source l.source;
  count : g.S.Source.faults l.source ≡ g.S.Source.faults l.initial.source;
  within : All (IsRangeWithin (g.S.Source.len l.initial.source)) l.ranges.items;
  same : ForSome (g.S.Source.known l.initial.source) (λ file. (i : ℕ) → is_excluded l.ranges.items i ≡ (is_excluded l.initial.ranges.items i || list_any (λ (e : Exclusion). marks file e i l.row) (take l.ask-index l.asks)));
  few : l.count ≤ length l.bytes;
  front : ForSome (g.S.Source.known l.initial.source) (λ file. IsFront file l.row (take l.count l.bytes));
}
