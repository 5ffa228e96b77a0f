use Rattle.std.proofs.Common.{length, take, ◌-◌, ◌≡◌, ◌≤◌}
use Rattle.c2_base.specs.Sink.{Appends}
use Rattle.c2_compare_spec.specs.EvidenceText.{printed}
use Rattle.c2_compare_evidence.proofs.pieces.write_printed.Given as goal

-- what is done is written, and nothing has failed
abbrev pub invariant-bytes : goal.invariant-bytes
invariant-bytes g l = record {
  inside : l.done ≤ length l.text;
  wrote : Appends (g.W.Sink.written l.fn.report) (g.W.Sink.written l.report) (printed (take l.done l.text));
  unfinished : g.W.Sink.finished l.report ≡ g.W.Sink.finished l.fn.report;
  count : g.W.Sink.faults l.report ≡ g.W.Sink.faults l.fn.report;
}

-- what is still to do
abbrev pub decreases-bytes : goal.decreases-bytes
decreases-bytes g l = length l.text - l.done
