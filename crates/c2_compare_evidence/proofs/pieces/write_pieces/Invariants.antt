use Rattle.std.proofs.Common.{length, take, ◌-◌, ◌≡◌, ◌≤◌}
use Rattle.c2_base.specs.Sink.{Appends}
use Rattle.std.specs.List.{flat_map}
use Rattle.c2_compare_evidence.specs.Writing.{piece_text}
use Rattle.c2_compare_evidence.proofs.pieces.write_pieces.Given as goal

-- what is done is written, and nothing has failed
abbrev pub invariant-pieces : goal.invariant-pieces
invariant-pieces g l = record {
  inside : l.done ≤ length l.pieces;
  wrote : Appends (g.W.Sink.written l.fn.report) (g.W.Sink.written l.report) (flat_map piece_text (take l.done l.pieces));
  unfinished : g.W.Sink.finished l.report ≡ g.W.Sink.finished l.fn.report;
  count : g.W.Sink.faults l.report ≡ g.W.Sink.faults l.fn.report;
}

-- what is still to do
abbrev pub decreases-pieces : goal.decreases-pieces
decreases-pieces g l = length l.pieces - l.done
