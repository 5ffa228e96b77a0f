use Rattle.std.proofs.Common.{take, refl, sym, subst, ◌∙◌, arith}
use Rattle.c2_base.specs.Causes.{Rose}
use Rattle.hex.specs.Hex.{encode_lower}
use Rattle.c2_cover.specs.Covers.{text_of, rest_of}
use Rattle.c2_calls_spec.proofs.SinkLemmas.{sink_as_it_was, sink_next, writes_done, writes_error, writes_next}
use Rattle.c2_calls_spec.proofs.SourceLemmas.{stays_as_it_was}
use Rattle.c2_compare_evidence.proofs.TextLines.{wrote_all, wrote_more, wrote_none, wrote_part, wrote_prefix}
use Rattle.c2_compare_evidence.proofs.Written.{written_prefix, written_whole}
use Rattle.c2_compare_evidence.specs.declared.error.CompareError.TheVariants.{WriteFault}
use Rattle.c2_compare_evidence.proofs.covered.write_text.Goals as goal
use Rattle.c2_base.proofs.Written.{source_stays}

-- before the first piece nothing is written
pub pieces-init : goal.pieces-init
pieces-init g c = record {
  room = c.requires.room;
  same_len = refl;
  size = c.requires.size ∙ sym c.new-reader.ensures.size;
  stays = stays_as_it_was g.S.Source.len g.S.Source.known g.S.Source.faults c.args.source.now;
  count = refl;
  report_stays = sink_as_it_was c.args.report.now;
  report_count = refl;
  wrote =
      λ file known. wrote_none (text_of c.args.cover.now file) (rest_of c.new-reader.result file) (g.W.Sink.written c.args.report.now) (sym (c.new-reader.ensures.text file));
}

-- the next piece is written
pub pieces-preserved : goal.pieces-preserved
pieces-preserved g c =
    let before = c.pieces.invariant in
    let call = c.in-Ok.ensures in
    let wrote = c.in-Ok-write_hex.ensures in
    record {
      room = omega (arith, before.room, c.next.auto.buf);
      same_len = c.next.auto.buf ∙ before.same_len;
      size = before.size ∙ sym call.same_size;
      stays =
          source_stays g.S.Source.len g.S.Source.known g.S.Source.faults c.args.source.now c.pieces.source
          c.next.new.source before.stays call.stays;
      count = call.cause.ok ∙ before.count;
      report_stays =
          sink_next c.args.report.now c.pieces.report c.write_hex.new.report before.report_stays wrote.report.stays;
      report_count = wrote.report.quiet ∙ before.report_count;
      wrote = λ file known.
          wrote_more (text_of c.args.cover.now file) (rest_of c.pieces.reader file) (take c.in-Ok.count c.next.new.buf) (rest_of c.next.new.self file)
          (g.W.Sink.written c.args.report.now) (g.W.Sink.written c.pieces.report)
          (g.W.Sink.written c.write_hex.new.report)
          (before.wrote file known) (call.piece.piece file (before.stays.same_bytes ∙ known)) wrote.wrote.whole;
    }

-- the source failed: what was written is a prefix
pub returns-in-Err-clause-wrote : goal.returns-in-Err-clause-wrote
returns-in-Err-clause-wrote g c = λ file known.
    written_prefix _ (g.W.Sink.written c.args.report.now) (g.W.Sink.written c.pieces.report)
    (encode_lower (text_of c.args.cover.now file))
    (wrote_prefix (text_of c.args.cover.now file) (rest_of c.pieces.reader file) (g.W.Sink.written c.args.report.now) (g.W.Sink.written c.pieces.report) (c.pieces.invariant.wrote file known))

-- the report failed: so is what was written with a part of the piece
pub returns-in-Err-write_hex-clause-wrote : goal.returns-in-Err-write_hex-clause-wrote
returns-in-Err-write_hex-clause-wrote g c = λ file known.
    written_prefix _ (g.W.Sink.written c.args.report.now) (g.W.Sink.written c.write_hex.new.report)
    (encode_lower (text_of c.args.cover.now file))
    (wrote_part (text_of c.args.cover.now file) (rest_of c.pieces.reader file) (take c.in-Ok.count c.next.new.buf) (rest_of c.next.new.self file)
    (g.W.Sink.written c.args.report.now) (g.W.Sink.written c.pieces.report) (g.W.Sink.written c.write_hex.new.report)
    (c.pieces.invariant.wrote file known) (c.in-Ok.ensures.piece.piece file (c.pieces.invariant.stays.same_bytes ∙ known)) c.in-Err-write_hex.ensures.wrote.prefix)

-- behind the last piece all is written
pub returns-clause-wrote : goal.returns-clause-wrote
returns-clause-wrote g c = λ file known.
    written_whole _ (g.W.Sink.written c.args.report.now) (g.W.Sink.written c.pieces.report)
    (encode_lower (text_of c.args.cover.now file))
    (wrote_all (text_of c.args.cover.now file) (rest_of c.pieces.reader file) (g.W.Sink.written c.args.report.now) (g.W.Sink.written c.pieces.report) (c.pieces.invariant.wrote file known)
    (c.in-Ok.ensures.piece.nothing c.if-count-eq0.true file (c.pieces.invariant.stays.same_bytes ∙ known)))

-- ---- what is left of the source and the report

-- the source failed
pub returns-in-Err-clause-source : goal.returns-in-Err-clause-source
returns-in-Err-clause-source g c = record {
  stays =
      source_stays g.S.Source.len g.S.Source.known g.S.Source.faults c.args.source.now c.pieces.source c.next.new.source
      c.pieces.invariant.stays c.in-Err.ensures.stays;
  quiet = tt;
  cause =
      subst (λ n. Rose n (g.S.Source.faults c.next.new.source)) c.pieces.invariant.count c.in-Err.ensures.cause.failed;
}

pub returns-in-Err-clause-report : goal.returns-in-Err-clause-report
returns-in-Err-clause-report g c =
    writes_done c.args.report.now c.pieces.report _ c.pieces.invariant.report_stays c.pieces.invariant.report_count tt

-- the report failed
pub returns-in-Err-write_hex-clause-source : goal.returns-in-Err-write_hex-clause-source
returns-in-Err-write_hex-clause-source g c = record {
  stays =
      source_stays g.S.Source.len g.S.Source.known g.S.Source.faults c.args.source.now c.pieces.source c.next.new.source
      c.pieces.invariant.stays c.in-Ok.ensures.stays;
  quiet = tt;
  cause = tt;
}

pub returns-in-Err-write_hex-clause-report : goal.returns-in-Err-write_hex-clause-report
returns-in-Err-write_hex-clause-report g c =
    writes_error c.args.report.now c.write_hex.new.report _ WriteFault
    (λ h. h) (writes_next c.args.report.now c.pieces.report c.write_hex.new.report _ c.pieces.invariant.report_stays c.pieces.invariant.report_count c.in-Err-write_hex.ensures.report)

-- neither did
pub returns-clause-source : goal.returns-clause-source
returns-clause-source g c = record {
  stays =
      source_stays g.S.Source.len g.S.Source.known g.S.Source.faults c.args.source.now c.pieces.source c.next.new.source
      c.pieces.invariant.stays c.in-Ok.ensures.stays;
  quiet = c.in-Ok.ensures.cause.ok ∙ c.pieces.invariant.count;
  cause = tt;
}

pub returns-clause-report : goal.returns-clause-report
returns-clause-report g c =
    writes_done c.args.report.now c.pieces.report _ c.pieces.invariant.report_stays c.pieces.invariant.report_count tt
