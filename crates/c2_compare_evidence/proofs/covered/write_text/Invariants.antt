use Rattle.std.proofs.Common.{◌≡◌, ◌<◌, length}
use Rattle.std.specs.Option.{ForSome}
use Rattle.c2_base.specs.Sink.{StaysSink}
use Rattle.c2_base.specs.Source.{StaysSource}
use Rattle.c2_cover.specs.Covers.{text_of, rest_of, left_of}
use Rattle.c2_compare_evidence.specs.Covered.{IsWrittenTo}
use Rattle.c2_compare_evidence.proofs.covered.write_text.Given as goal

-- the pieces that were read are written, the reader stands for the rest, and nothing has failed
abbrev pub invariant-pieces : goal.invariant-pieces
invariant-pieces g l = record {
  room : 0 < length l.buf;
  same_len : length l.buf ≡ length l.fn.buf;
  size : g.S.Source.len l.fn.source ≡ l.reader.size;
  stays : StaysSource g.S.Source.len g.S.Source.known g.S.Source.faults l.fn.source l.source;
  count : g.S.Source.faults l.source ≡ g.S.Source.faults l.fn.source;
  report_stays : StaysSink g.W.Sink.written g.W.Sink.finished g.W.Sink.faults l.fn.report l.report;
  report_count : g.W.Sink.faults l.report ≡ g.W.Sink.faults l.fn.report;
  wrote : ForSome (g.S.Source.known l.fn.source) (λ file. IsWrittenTo (text_of l.cover file) (rest_of l.reader file) (g.W.Sink.written l.fn.report) (g.W.Sink.written l.report));
}

-- the bytes of the covered text that are still to come, which get fewer with each piece
abbrev pub decreases-pieces : goal.decreases-pieces
decreases-pieces g l = left_of l.reader
