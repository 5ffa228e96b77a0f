use Rattle.c2_compare_spec.proofs.TheLaws.{a_difference_is_found_none}
use Rattle.std.proofs.Common.{◌∙◌, subst}
use Rattle.c2_base.specs.Sink.{Appends, HasWrittenPrefix}
use Rattle.c2_cover.specs.Covers.{text_of}
use Rattle.c2_compare_evidence.specs.Covered.{covered_evidence}
use Rattle.c2_calls_spec.proofs.BesideLemmas.{reads_both}
use Rattle.c2_calls_spec.proofs.SinkLemmas.{writes_error, writes_nothing, writes_then}
use Rattle.c2_calls_spec.proofs.SourceLemmas.{reads_error, reads_then}
use Rattle.c2_compare_opened.proofs.Errors.{unjudged_reading, unwritten_reading}
use Rattle.c2_compare_evidence.specs.Causes.{IsReadCauseBeside}
use Rattle.c2_compare_opened.proofs.Outcomes.{covered_equal, covered_prefix, covered_written}
use Rattle.c2_compare_opened.proofs.settling.settle_covered.Goals as goal

-- ---- what the files come to

-- the covered texts are equal too
pub returns-then-same-clause-settled : goal.returns-then-same-clause-settled
returns-then-same-clause-settled g c = λ a known b known' hash said h k.
    covered_equal h k (λ first second. a_difference_is_found_none hash said first second h.store k.store) c.in-Ok.same (g.W.Sink.written c.args.report.now) c.requires.claims c.requires.none (c.in-Ok.ensures.same a known b known') c.if-same.true

-- they differ, and evidence is written
pub returns-in-Ok-write_covered-clause-settled : goal.returns-in-Ok-write_covered-clause-settled
returns-in-Ok-write_covered-clause-settled g c = λ a known b known' hash said h k.
    let one = c.args.one.now in
    let two = c.args.two.now in
    covered_written h k c.in-Ok.same (g.W.Sink.written c.args.report.now) (g.W.Sink.written c.write_covered.new.report) c.requires.claims c.requires.none (c.in-Ok.ensures.same a known b known') c.if-same.false
    (subst (λ x. Appends (g.W.Sink.written c.args.report.now) (g.W.Sink.written c.write_covered.new.report) (covered_evidence x (text_of one.text.now.cover a) (text_of two.text.now.cover b))) c.as_str.ensures.value
    (c.in-Ok-write_covered.ensures.wrote a (c.in-Ok.ensures.first.stays.same_bytes ∙ known) b (c.in-Ok.ensures.second.stays.same_bytes ∙ known')).whole)

-- or a prefix of it
pub returns-in-Err-write_covered-clause-settled : goal.returns-in-Err-write_covered-clause-settled
returns-in-Err-write_covered-clause-settled g c = λ a known b known' hash said h k.
    let one = c.args.one.now in
    let two = c.args.two.now in
    covered_prefix h k c.in-Ok.same c.in-Err-write_covered.error (g.W.Sink.written c.args.report.now) (g.W.Sink.written c.write_covered.new.report) c.requires.claims c.requires.none (c.in-Ok.ensures.same a known b known') c.if-same.false
    (subst (λ x. HasWrittenPrefix (g.W.Sink.written c.args.report.now) (g.W.Sink.written c.write_covered.new.report) (covered_evidence x (text_of one.text.now.cover a) (text_of two.text.now.cover b))) c.as_str.ensures.value
    (c.in-Err-write_covered.ensures.wrote a (c.in-Ok.ensures.first.stays.same_bytes ∙ known) b (c.in-Ok.ensures.second.stays.same_bytes ∙ known')).prefix)

-- ---- what is left of the sources and the report

-- a source failed, or memory ran out, before anything was written
pub returns-in-Err-clause-errors : goal.returns-in-Err-clause-errors
returns-in-Err-clause-errors g c = unjudged_reading c.in-Err.error c.in-Err.ensures.errors

pub returns-in-Err-clause-first : goal.returns-in-Err-clause-first
returns-in-Err-clause-first g c = reads_error _ _ _ _ _ _ _ _ _ (λ h. h) c.in-Err.ensures.first

pub returns-in-Err-clause-second : goal.returns-in-Err-clause-second
returns-in-Err-clause-second g c = reads_error _ _ _ _ _ _ _ _ _ (λ h. h) c.in-Err.ensures.second

pub returns-in-Err-clause-report : goal.returns-in-Err-clause-report
returns-in-Err-clause-report g c = writes_nothing _ _ (unwritten_reading _ _ c.in-Err.error c.in-Err.ensures.errors)

-- all is equal
pub returns-then-same-clause-first : goal.returns-then-same-clause-first
returns-then-same-clause-first g c = reads_then _ _ _ _ _ _ _ _ _ tt c.in-Ok.ensures.first

pub returns-then-same-clause-second : goal.returns-then-same-clause-second
returns-then-same-clause-second g c = reads_then _ _ _ _ _ _ _ _ _ tt c.in-Ok.ensures.second

pub returns-then-same-clause-report : goal.returns-then-same-clause-report
returns-then-same-clause-report g c = writes_nothing _ _ tt

-- evidence was written
pub returns-in-Ok-write_covered-clause-first : goal.returns-in-Ok-write_covered-clause-first
returns-in-Ok-write_covered-clause-first g c =
    reads_then _ _ _ _ _ _ _ _ _ tt
    (reads_both IsReadCauseBeside _ _ _ _ _ _ _ _ c.in-Ok.ensures.second.quiet c.in-Ok.ensures.first c.in-Ok-write_covered.ensures.first)

pub returns-in-Ok-write_covered-clause-second : goal.returns-in-Ok-write_covered-clause-second
returns-in-Ok-write_covered-clause-second g c =
    reads_then _ _ _ _ _ _ _ _ _ tt
    (reads_both IsReadCauseBeside _ _ _ _ _ _ _ _ c.in-Ok.ensures.first.quiet c.in-Ok.ensures.second c.in-Ok-write_covered.ensures.second)

pub returns-in-Ok-write_covered-clause-report : goal.returns-in-Ok-write_covered-clause-report
returns-in-Ok-write_covered-clause-report g c = writes_then _ _ _ _ tt c.in-Ok-write_covered.ensures.report

-- or a prefix of it
pub returns-in-Err-write_covered-clause-first : goal.returns-in-Err-write_covered-clause-first
returns-in-Err-write_covered-clause-first g c =
    reads_error _ _ _ _ _ _ _ _ _ (λ h. h)
    (reads_both IsReadCauseBeside _ _ _ _ _ _ _ _ c.in-Ok.ensures.second.quiet c.in-Ok.ensures.first c.in-Err-write_covered.ensures.first)

pub returns-in-Err-write_covered-clause-second : goal.returns-in-Err-write_covered-clause-second
returns-in-Err-write_covered-clause-second g c =
    reads_error _ _ _ _ _ _ _ _ _ (λ h. h)
    (reads_both IsReadCauseBeside _ _ _ _ _ _ _ _ c.in-Ok.ensures.first.quiet c.in-Ok.ensures.second c.in-Err-write_covered.ensures.second)

pub returns-in-Err-write_covered-clause-report : goal.returns-in-Err-write_covered-clause-report
returns-in-Err-write_covered-clause-report g c = writes_error _ _ _ _ (λ h. h) c.in-Err-write_covered.ensures.report
