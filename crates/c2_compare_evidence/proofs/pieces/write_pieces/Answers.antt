use Rattle.std.proofs.Common.{take, sym, subst, arith}
use Rattle.std.specs.List.{flat_map}
use Rattle.std.proofs.lemmas.Grind.{flat_map-append}
use Rattle.c2_base.specs.Sink.{HasWrittenPrefix}
use Rattle.c2_compare_evidence.specs.Writing.{piece_text}
use Rattle.c2_calls_spec.proofs.SinkLemmas.{sink_so_far, writes_done, writes_next}
use Rattle.c2_compare_evidence.proofs.Written.{front_all, front_part, one_member, written_prefix, written_whole}
use Rattle.c2_compare_evidence.proofs.pieces.write_pieces.Goals as goal

-- the report failed at a piece
pub returns-in-Err-clause-wrote : goal.returns-in-Err-clause-wrote
returns-in-Err-clause-wrote g c =
    written_prefix _ (g.W.Sink.written c.args.report.now) (g.W.Sink.written c.write_piece.new.report)
    (flat_map piece_text c.args.pieces.now)
    (front_part (flat_map piece_text) (flat_map-append piece_text) c.args.pieces.now c.pieces.done 1 (g.W.Sink.written c.args.report.now) (g.W.Sink.written c.pieces.report) (g.W.Sink.written c.write_piece.new.report)
    c.pieces.invariant.wrote
    (subst (HasWrittenPrefix (g.W.Sink.written c.pieces.report) (g.W.Sink.written c.write_piece.new.report)) (sym (one_member piece_text c.args.pieces.now c.pieces.done _ c.pieces-test.true)) c.in-Err.ensures.wrote.prefix))

-- all pieces are written
pub returns-clause-wrote : goal.returns-clause-wrote
returns-clause-wrote g c =
    written_whole _ (g.W.Sink.written c.args.report.now) (g.W.Sink.written c.pieces.report)
    (flat_map piece_text c.args.pieces.now)
    (front_all (flat_map piece_text) (flat_map-append piece_text) c.args.pieces.now c.pieces.done (g.W.Sink.written c.args.report.now) (g.W.Sink.written c.pieces.report) (omega (arith, c.pieces-test.false)) c.pieces.invariant.wrote)

-- ---- what is left of the report

-- it failed
pub returns-in-Err-clause-report : goal.returns-in-Err-clause-report
returns-in-Err-clause-report g c =
    let done = c.pieces.invariant in
    writes_next c.args.report.now c.pieces.report c.write_piece.new.report _
    (sink_so_far (flat_map piece_text (take c.pieces.done c.args.pieces.now)) c.args.report.now c.pieces.report done.wrote done.unfinished done.count) done.count c.in-Err.ensures.report

-- it didn't
pub returns-clause-report : goal.returns-clause-report
returns-clause-report g c =
    let done = c.pieces.invariant in
    writes_done c.args.report.now c.pieces.report _
    (sink_so_far (flat_map piece_text (take c.pieces.done c.args.pieces.now)) c.args.report.now c.pieces.report done.wrote done.unfinished done.count)
    done.count tt
