use Rattle.std.proofs.Common.{map, take, sym, subst}
use Rattle.std.proofs.lemmas.List.{map-append}
use Rattle.c2_base.specs.Sink.{HasWrittenPrefix}
use Rattle.c2_compare_spec.specs.EvidenceText.{printed, printed_byte}
use Rattle.c2_calls_spec.proofs.SinkLemmas.{sink_so_far, writes_done, writes_next}
use Rattle.c2_compare_evidence.proofs.Written.{front_part, one_byte, written_prefix}
use Rattle.c2_compare_evidence.proofs.pieces.write_printed.Goals as goal

-- the report failed at a byte
pub returns-in-Err-clause-wrote : goal.returns-in-Err-clause-wrote
returns-in-Err-clause-wrote g c =
    written_prefix _ (g.W.Sink.written c.args.report.now) (g.W.Sink.written c.write_bytes.new.report)
    (printed c.args.text.now)
    (front_part (map printed_byte) (map-append printed_byte) c.args.text.now c.bytes.done 1 (g.W.Sink.written c.args.report.now) (g.W.Sink.written c.bytes.report) (g.W.Sink.written c.write_bytes.new.report)
    c.bytes.invariant.wrote
    (subst (HasWrittenPrefix (g.W.Sink.written c.bytes.report) (g.W.Sink.written c.write_bytes.new.report)) (sym (one_byte printed_byte c.args.text.now c.bytes.done _ c.printed_byte.result c.bytes-test.true c.printed_byte.ensures))
    c.in-Err.ensures.wrote.prefix))

-- ---- what is left of the report

-- it failed
pub returns-in-Err-clause-report : goal.returns-in-Err-clause-report
returns-in-Err-clause-report g c =
    let done = c.bytes.invariant in
    writes_next c.args.report.now c.bytes.report c.write_bytes.new.report _
    (sink_so_far (printed (take c.bytes.done c.args.text.now)) c.args.report.now c.bytes.report done.wrote done.unfinished done.count) done.count c.in-Err.ensures.report

-- it didn't
pub returns-clause-report : goal.returns-clause-report
returns-clause-report g c =
    let done = c.bytes.invariant in
    writes_done c.args.report.now c.bytes.report _
    (sink_so_far (printed (take c.bytes.done c.args.text.now)) c.args.report.now c.bytes.report done.wrote done.unfinished done.count)
    done.count tt
