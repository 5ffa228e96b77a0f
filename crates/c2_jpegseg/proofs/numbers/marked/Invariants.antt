use Rattle.std.proofs.Common.{◌≡◌, ◌-◌, ◌≤◌, length}
use Rattle.std.specs.Option.{ForSome}
use Rattle.c2_base.specs.Source.{StaysSource}
use Rattle.c2_jpegseg_segments.specs.Passing.{Passes, Marks}
use Rattle.c2_jpegseg_segments.specs.Windows.{Shows}
use Rattle.c2_jpegseg_segments.specs.declared.numbers.TheConstants.{MARKS_LEN}
use Rattle.c2_jpegseg.proofs.numbers.marked.Given as goal

-- the segments before the place are marked, but for those that are passed over
abbrev pub invariant-segments : goal.invariant-segments
invariant-segments g l = record {
  inside : l.at ≤ l.size;
  stays : StaysSource g.S.Source.len g.S.Source.known g.S.Source.faults l.initial.source l.source;
  count : g.S.Source.faults l.source ≡ g.S.Source.faults l.initial.source;
  shows : Shows (g.S.Source.len l.initial.source) (g.S.Source.known l.initial.source) l.window;
  sized : length l.marks ≡ MARKS_LEN;
  passes : ForSome (g.S.Source.known l.initial.source) (λ file. Passes file l.skip l.at (Marks l.marks));
}

-- what is left of the file
abbrev pub decreases-segments : goal.decreases-segments
decreases-segments g l = l.size - l.at
