use Rattle.std.proofs.Common.{◌≡◌, ◌-◌, ◌++◌, drop, replicate}
use Rattle.std.specs.Option.{ForSome}
use Rattle.c2_base.specs.Source.{StaysSource}
use Rattle.c2_jpegseg_segments.proofs.marker.marker_from.Given as goal

-- the bytes passed are fill
abbrev pub invariant-loop-place : goal.invariant-loop-place
invariant-loop-place g l = record {
  stays : StaysSource g.S.Source.len g.S.Source.known g.S.Source.faults l.initial.source l.source;
  count : g.S.Source.faults l.source ≡ g.S.Source.faults l.initial.source;
  shows : g.W.Bytes.shows (g.S.Source.len l.initial.source) (g.S.Source.known l.initial.source) l.window;
  fill : ForSome (g.S.Source.known l.initial.source) (λ file. drop l.at file ≡ replicate (l.place - l.at) 255 ++ drop l.place file);
}
