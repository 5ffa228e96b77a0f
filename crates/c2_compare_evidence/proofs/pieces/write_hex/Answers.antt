use Rattle.std.proofs.Common.{◌≡◌, ◌+◌, ◌-◌, refl, sym, ap, ◌∙◌, subst, take, drop, arith}
use Rattle.std.proofs.lemmas.Grind.{common_steps}
use Rattle.hex.specs.Hex.{encode_lower}
use Rattle.c2_base.specs.Sink.{HasWrittenPrefix, Appends, then_written}
use Rattle.c2_calls_spec.proofs.SinkLemmas.{sink_so_far, writes_done, writes_next}
use Rattle.c2_compare_evidence.proofs.Written.{front_all, front_more, front_part, hex_append, hex_none, written_prefix, written_whole}
use Rattle.c2_compare_evidence.proofs.pieces.write_hex.Goals as goal
use Rattle.c2_base.proofs.Written.{then_nothing}

-- before the first piece nothing is written
pub pieces-init : goal.pieces-init
pieces-init g c = record {
  inside = omega arith;
  room = refl;
  wrote =
      then_nothing (g.W.Sink.written c.args.report.now)
      ∙ ap (then_written (g.W.Sink.written c.args.report.now)) (sym hex_none);
  unfinished = refl;
  count = refl;
}

-- a piece more is written
pub pieces-preserved : goal.pieces-preserved
pieces-preserved g c =
    let before = c.pieces.invariant in
    let one : c.pieces.done + c.min-count.result - c.pieces.done ≡ c.min-count.result = omega arith in
    record {
      inside = omega (arith, c.min-count.ensures, before.inside, c.pieces-test.true);
      room = grind (arith, common_steps);
      wrote = front_more encode_lower hex_append c.args.bytes.now c.pieces.done c.min-count.result (g.W.Sink.written c.args.report.now) (g.W.Sink.written c.pieces.report) (g.W.Sink.written c.write_digits.new.report)
          before.wrote (subst (λ k. Appends (g.W.Sink.written c.pieces.report) (g.W.Sink.written c.write_digits.new.report) (encode_lower (take k (drop c.pieces.done c.args.bytes.now)))) one c.in-Ok.ensures.wrote.whole);
      unfinished = c.in-Ok.ensures.report.stays.unfinished ∙ before.unfinished;
      count = c.in-Ok.ensures.report.quiet ∙ before.count;
    }

-- the report failed at a piece
pub returns-in-Err-clause-wrote : goal.returns-in-Err-clause-wrote
returns-in-Err-clause-wrote g c =
    let one : c.pieces.done + c.min-count.result - c.pieces.done ≡ c.min-count.result = omega arith in
    written_prefix _ (g.W.Sink.written c.args.report.now) (g.W.Sink.written c.write_digits.new.report)
    (encode_lower c.args.bytes.now)
    (front_part encode_lower hex_append c.args.bytes.now c.pieces.done c.min-count.result (g.W.Sink.written c.args.report.now) (g.W.Sink.written c.pieces.report) (g.W.Sink.written c.write_digits.new.report)
    c.pieces.invariant.wrote
    (subst (λ k. HasWrittenPrefix (g.W.Sink.written c.pieces.report) (g.W.Sink.written c.write_digits.new.report) (encode_lower (take k (drop c.pieces.done c.args.bytes.now)))) one c.in-Err.ensures.wrote.prefix))

-- all is written
pub returns-clause-wrote : goal.returns-clause-wrote
returns-clause-wrote g c =
    written_whole _ (g.W.Sink.written c.args.report.now) (g.W.Sink.written c.pieces.report)
    (encode_lower c.args.bytes.now)
    (front_all encode_lower hex_append c.args.bytes.now c.pieces.done (g.W.Sink.written c.args.report.now) (g.W.Sink.written c.pieces.report) (omega (arith, c.pieces-test.false)) c.pieces.invariant.wrote)

-- ---- what is left of the report

-- it failed
pub returns-in-Err-clause-report : goal.returns-in-Err-clause-report
returns-in-Err-clause-report g c =
    let done = c.pieces.invariant in
    writes_next c.args.report.now c.pieces.report c.write_digits.new.report _
    (sink_so_far (encode_lower (take c.pieces.done c.args.bytes.now)) c.args.report.now c.pieces.report done.wrote done.unfinished done.count) done.count c.in-Err.ensures.report

-- it didn't
pub returns-clause-report : goal.returns-clause-report
returns-clause-report g c =
    let done = c.pieces.invariant in
    writes_done c.args.report.now c.pieces.report _
    (sink_so_far (encode_lower (take c.pieces.done c.args.bytes.now)) c.args.report.now c.pieces.report done.wrote done.unfinished done.count)
    done.count tt
