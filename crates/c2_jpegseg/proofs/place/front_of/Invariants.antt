use Rattle.std.proofs.Common.{◌≡◌, ◌-◌, ◌≤◌}
use Rattle.std.specs.Option.{ForSome}
use Rattle.c2_base.specs.Source.{StaysSource}
use Rattle.c2_jpegseg_segments.specs.Fronts.{IsFront}
use Rattle.c2_jpegseg_segments.specs.Passing.{Passes}
use Rattle.c2_jpegseg.specs.Peeks.{Peeks}
use Rattle.c2_jpegseg.proofs.place.front_of.Given as goal

-- the front is that of the segments before the place, but for those that are passed over
abbrev pub invariant-segments : goal.invariant-segments
invariant-segments g l = record {
  inside : l.at ≤ l.size;
  before : l.front.end ≤ l.at;
  stays : StaysSource g.S.Source.len g.S.Source.known g.S.Source.faults l.initial.source l.source;
  count : g.S.Source.faults l.source ≡ g.S.Source.faults l.initial.source;
  shows : Peeks (g.S.Source.len l.initial.source) (g.S.Source.known l.initial.source) l.peek;
  passes : ForSome (g.S.Source.known l.initial.source) (λ file. Passes file l.skip l.at (IsFront l.front));
}

-- what is left of the file
abbrev pub decreases-segments : goal.decreases-segments
decreases-segments g l = l.size - l.at
