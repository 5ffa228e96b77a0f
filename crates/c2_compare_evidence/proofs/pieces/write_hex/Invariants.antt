use Rattle.std.proofs.Common.{length, take, ◌-◌, ◌*◌, ◌≡◌, ◌≤◌}
use Rattle.c2_base.specs.Sink.{Appends}
use Rattle.hex.specs.Hex.{encode_lower}
use Rattle.c2_compare_evidence.proofs.pieces.write_hex.Given as goal

-- what is done is written, and nothing has failed
abbrev pub invariant-pieces : goal.invariant-pieces
invariant-pieces g l = record {
  inside : l.done ≤ length l.bytes;
  room : length l.digits ≡ 2 * 2048;
  wrote : Appends (g.W.Sink.written l.fn.report) (g.W.Sink.written l.report) (encode_lower (take l.done l.bytes));
  unfinished : g.W.Sink.finished l.report ≡ g.W.Sink.finished l.fn.report;
  count : g.W.Sink.faults l.report ≡ g.W.Sink.faults l.fn.report;
}

-- what is still to do
abbrev pub decreases-pieces : goal.decreases-pieces
decreases-pieces g l = length l.bytes - l.done
