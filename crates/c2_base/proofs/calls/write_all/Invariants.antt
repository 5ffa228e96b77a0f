use Rattle.std.proofs.Common.{length, take, ◌-◌, ◌≡◌, ◌≤◌}
use Rattle.c2_base.specs.Sink.{then_written, spare_less}
use Rattle.c2_base.proofs.calls.write_all.Given as goal

abbrev pub invariant-writes : goal.invariant-writes
invariant-writes g l = record {
  in_bytes : l.done ≤ length l.bytes;
  count : g.K.Sink.faults l.sink ≡ g.K.Sink.faults l.initial.sink;
  written : g.K.Sink.written l.sink ≡ then_written (g.K.Sink.written l.initial.sink) (take l.done l.bytes);
  unfinished : g.K.Sink.finished l.sink ≡ g.K.Sink.finished l.initial.sink;
  spare : g.K.Sink.spare l.sink ≡ spare_less (g.K.Sink.spare l.initial.sink) l.done;
}

abbrev pub decreases-writes : goal.decreases-writes
decreases-writes g l = length l.bytes - l.done
