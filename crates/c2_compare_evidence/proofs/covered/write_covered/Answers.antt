use Rattle.std.proofs.Common.{ℕ, ◌++◌, Err, refl, sym, ◌∙◌}
use Rattle.std.proofs.lemmas.List.{append_assoc}
use Rattle.c2_compare_spec.specs.EvidenceText.{hex_line}
use Rattle.c2_cover.specs.Covers.{text_of}
use Rattle.c2_compare_evidence.specs.Covered.{covered_evidence, covered_head}
use Rattle.c2_compare_evidence.specs.declared.error.CompareError.TheVariants.{WriteFault}
use Rattle.c2_calls_spec.proofs.SinkLemmas.{sink_next, writes_error, writes_next}
use Rattle.c2_calls_spec.proofs.SourceLemmas.{reads_nothing, reads_then}
use Rattle.c2_compare_evidence.proofs.Leaving.{cause_beside, reads_lone, unjudged_fault}
use Rattle.c2_compare_evidence.proofs.Written.{appends_after, prefix_after, prefix_first, written_last, written_prefix}
use Rattle.c2_compare_evidence.proofs.covered.write_covered.Goals as goal

-- ---- what is written

-- the first line failed
pub returns-in-Err-write_head-clause-wrote : goal.returns-in-Err-write_head-clause-wrote
returns-in-Err-write_head-clause-wrote g c = λ file known copy other.
    let t = c.args.texts.now in
    written_prefix _ (g.W.Sink.written c.args.report.now) (g.W.Sink.written c.write_head.new.report)
    (covered_evidence t.alg.now (text_of t.left.now file) (text_of t.right.now copy))
    (prefix_first (g.W.Sink.written c.args.report.now) (g.W.Sink.written c.write_head.new.report) (covered_head t.alg.now) (hex_line (text_of t.left.now file) ++ hex_line (text_of t.right.now copy))
    (covered_evidence t.alg.now (text_of t.left.now file) (text_of t.right.now copy)) c.in-Err-write_head.ensures.wrote.prefix refl)

-- the first text failed
pub returns-in-Err-write_line-clause-wrote : goal.returns-in-Err-write_line-clause-wrote
returns-in-Err-write_line-clause-wrote g c = λ file known copy other.
    let t = c.args.texts.now in
    written_prefix _ (g.W.Sink.written c.args.report.now) (g.W.Sink.written c.write_line.new.report)
    (covered_evidence t.alg.now (text_of t.left.now file) (text_of t.right.now copy))
    (prefix_after (g.W.Sink.written c.args.report.now) (g.W.Sink.written c.write_head.new.report) (g.W.Sink.written c.write_line.new.report)
    (covered_head t.alg.now) (hex_line (text_of t.left.now file)) (hex_line (text_of t.right.now copy))
    (covered_evidence t.alg.now (text_of t.left.now file) (text_of t.right.now copy)) c.in-Ok-write_head.ensures.wrote.whole (c.in-Err-write_line.ensures.wrote file known).prefix refl)

-- the second text
pub returns-clause-wrote : goal.returns-clause-wrote
returns-clause-wrote g c = λ file known copy other.
    let t = c.args.texts.now in
    written_last c.write_line-2.result (g.W.Sink.written c.args.report.now) (g.W.Sink.written c.write_line.new.report)
    (g.W.Sink.written c.write_line-2.new.report)
    (covered_head t.alg.now ++ hex_line (text_of t.left.now file)) (hex_line (text_of t.right.now copy))
    (covered_evidence t.alg.now (text_of t.left.now file) (text_of t.right.now copy))
    (appends_after (g.W.Sink.written c.args.report.now) (g.W.Sink.written c.write_head.new.report) (g.W.Sink.written c.write_line.new.report) (covered_head t.alg.now) (hex_line (text_of t.left.now file)) c.in-Ok-write_head.ensures.wrote.whole (c.in-Ok-write_line.ensures.wrote file known).whole)
    (c.write_line-2.ensures.wrote copy other)
    (sym (append_assoc (covered_head t.alg.now) (hex_line (text_of t.left.now file)) (hex_line (text_of t.right.now copy))))

-- ---- what is left of the sources and the report

-- the first line failed
pub returns-in-Err-write_head-clause-first : goal.returns-in-Err-write_head-clause-first
returns-in-Err-write_head-clause-first g c = reads_nothing _ _ _ _ _ _ tt

pub returns-in-Err-write_head-clause-second : goal.returns-in-Err-write_head-clause-second
returns-in-Err-write_head-clause-second g c = reads_nothing _ _ _ _ _ _ tt

pub returns-in-Err-write_head-clause-report : goal.returns-in-Err-write_head-clause-report
returns-in-Err-write_head-clause-report g c =
    writes_error c.args.report.now c.write_head.new.report _ WriteFault (λ h. h) c.in-Err-write_head.ensures.report

-- the first text failed
pub returns-in-Err-write_line-clause-errors : goal.returns-in-Err-write_line-clause-errors
returns-in-Err-write_line-clause-errors g c =
    unjudged_fault {T = ℕ} (Err c.in-Err-write_line.error) c.in-Err-write_line.ensures.errors

pub returns-in-Err-write_line-clause-first : goal.returns-in-Err-write_line-clause-first
returns-in-Err-write_line-clause-first g c =
    reads_lone _ _ c.args.first.now c.write_line.new.source (Err c.in-Err-write_line.error)
    c.in-Err-write_line.ensures.source

pub returns-in-Err-write_line-clause-second : goal.returns-in-Err-write_line-clause-second
returns-in-Err-write_line-clause-second g c =
    reads_nothing _ _ _ _ c.args.second.now _
    (cause_beside {T = ℕ} _ _ _ _ (Err c.in-Err-write_line.error) c.in-Err-write_line.ensures.source.cause)

pub returns-in-Err-write_line-clause-report : goal.returns-in-Err-write_line-clause-report
returns-in-Err-write_line-clause-report g c =
    writes_next c.args.report.now c.write_head.new.report c.write_line.new.report _ c.in-Ok-write_head.ensures.report.stays c.in-Ok-write_head.ensures.report.quiet c.in-Err-write_line.ensures.report

-- the second text
pub returns-clause-errors : goal.returns-clause-errors
returns-clause-errors g c = unjudged_fault c.write_line-2.result c.write_line-2.ensures.errors

pub returns-clause-first : goal.returns-clause-first
returns-clause-first g c =
    reads_then _ _ _ _ _ c.args.first.now c.write_line.new.source _ _
    (cause_beside _ _ _ _ c.write_line-2.result c.write_line-2.ensures.source.cause)
    c.in-Ok-write_line.ensures.source

pub returns-clause-second : goal.returns-clause-second
returns-clause-second g c =
    reads_lone _ _ c.args.second.now c.write_line-2.new.source c.write_line-2.result c.write_line-2.ensures.source

pub returns-clause-report : goal.returns-clause-report
returns-clause-report g c =
    writes_next c.args.report.now c.write_line.new.report c.write_line-2.new.report _
    (sink_next c.args.report.now c.write_head.new.report c.write_line.new.report c.in-Ok-write_head.ensures.report.stays c.in-Ok-write_line.ensures.report.stays)
    (c.in-Ok-write_line.ensures.report.quiet ∙ c.in-Ok-write_head.ensures.report.quiet) c.write_line-2.ensures.report
