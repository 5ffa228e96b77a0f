use Rattle.std.proofs.Common.{◌≡◌, ◌-◌, ◌≤◌}
use Rattle.std.specs.Option.{ForSome}
use Rattle.c2_base.specs.Source.{StaysSource}
use Rattle.c2_jpegseg_survey.specs.Keeping.{IsKept, run_range}
use Rattle.c2_jpegseg_segments.specs.Passing.{Passes}
use Rattle.c2_jpegseg_segments.specs.Runs.{all_collected, EndsBy}
use Rattle.c2_jpegseg_segments.specs.Walks.{Walks}
use Rattle.c2_jpegseg_segments.specs.Windows.{Shows}
use Rattle.c2_jpegseg_survey.proofs.walking.walked.Given as goal

-- the segments before the place pass
abbrev pub invariant-segments : goal.invariant-segments
invariant-segments g l = record {
  inside : l.at ≤ l.size;
  stays : StaysSource g.S.Source.len g.S.Source.known g.S.Source.faults l.initial.source l.source;
  count : g.S.Source.faults l.source ≡ g.S.Source.faults l.initial.source;
  shows : Shows (g.S.Source.len l.initial.source) (g.S.Source.known l.initial.source) l.window;
  before : EndsBy l.at l.run;
  most : l.kept.front.end ≤ l.at;
  walks : ForSome (g.S.Source.known l.initial.source) (λ file. Walks file l.at (all_collected l.run));
  passes : ForSome (g.S.Source.known l.initial.source) (λ file. Passes file (run_range (all_collected l.run)) l.at (IsKept l.kept));
}

-- what is left of the file
abbrev pub decreases-segments : goal.decreases-segments
decreases-segments g l = l.size - l.at
