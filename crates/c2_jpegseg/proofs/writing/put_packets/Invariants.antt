use Rattle.std.proofs.Common.{◌≡◌, ◌+◌, ◌-◌, ◌≤◌, ◌<◌, ◌^◌, length}
use Rattle.std.specs.List.{flat_map}
use Rattle.c2_spec.specs.Jpeg.Segments.{segment_bytes}
use Rattle.c2_spec.specs.Jpeg.Writing.{packets_from, packets_bytes}
use Rattle.c2_jpegseg.proofs.Appending.{Between}
use Rattle.c2_jpegseg.proofs.writing.put_packets.Given as goal

-- the packets before this number were appended, and those from it on are missing
abbrev pub invariant-packets : goal.invariant-packets
invariant-packets g l = record {
  some : 1 ≤ l.z;
  most : l.z ≤ l.count + 1;
  few : l.count + 1 < 2 ^ 32;
  header : length l.header ≡ 8;
  between : Between g.K.Sink.written g.K.Sink.spare g.K.Sink.finished g.K.Sink.faults (packets_bytes l.store l.en) (flat_map segment_bytes (packets_from l.header l.en (l.count + 1 - l.z) l.z l.body)) l.initial.sink l.sink;
}

abbrev pub decreases-packets : goal.decreases-packets
decreases-packets g l = l.count + 1 - l.z
