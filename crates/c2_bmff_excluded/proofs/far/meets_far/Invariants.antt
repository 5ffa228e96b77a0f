use Rattle.std.proofs.Common.{◌≡◌, ◌≤◌, drop}
use Rattle.std.specs.Prelude.{map}
use Rattle.std.specs.List.{list_all}
use Rattle.std.specs.Option.{ForSome}
use Rattle.c2_base.specs.Source.{StaysSource}
use Rattle.c2_bmff_excluded.specs.Marks.{holds_test}
use Rattle.c2_bmff_excluded.specs.Runs.{run_test}
use Rattle.c2_bmff_excluded.specs.Windows.{IsWindow}
use Rattle.c2_bmff_excluded.proofs.far.meets_far.Given as goal

-- all runs stand in the box just when those from this one on do; the source hasn't failed; the window has bytes of the file
abbrev pub invariant-loop-run : goal.invariant-loop-run
invariant-loop-run g l = record {
  stays : StaysSource g.S.Source.len g.S.Source.known g.S.Source.faults l.initial.source l.source;
  count : g.S.Source.faults l.source ≡ g.S.Source.faults l.initial.source;
  same : ForSome (g.S.Source.known l.initial.source) (λ file. list_all (holds_test file l.row) (map (run_test l.bytes) l.runs) ≡ list_all (holds_test file l.row) (map (run_test l.bytes) (drop l.run-index l.runs)));
  few : l.window.count ≤ 4096;
  window : ForSome (g.S.Source.known l.initial.source) (λ file. IsWindow file l.buffer l.window);
}
