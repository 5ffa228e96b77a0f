use Rattle.std.proofs.Common.{◌++◌, Option, subst}
use Rattle.c2_compare_spec.specs.Differences.{all_ingredients, all_unredacted}
use Rattle.c2_compare_evidence.specs.Differing.{IsFirstOf}
use Rattle.c2_compare_evidence.specs.declared.error.CompareError.TheVariants.{WriteFault}
use Rattle.c2_compare_evidence.specs.declared.lists.Difference.{Difference}
use Rattle.c2_calls_spec.proofs.SinkLemmas.{writes_error, writes_nothing, writes_then}
use Rattle.c2_calls_spec.proofs.SourceLemmas.{reads_error, reads_nothing, reads_then}
use Rattle.c2_compare_opened.proofs.Errors.{unjudged_reading, unwritten_reading}
use Rattle.c2_compare_opened.proofs.Outcomes.{all_equal, chain_prefix, chain_written, other_claims}
use Rattle.c2_compare_opened.proofs.settling.settle.Goals as goal

-- ---- the active claims differ

pub returns-then-not-equal-clause-settled : goal.returns-then-not-equal-clause-settled
returns-then-not-equal-clause-settled g c = λ a known b known' hash said h k.
    other_claims h k (g.W.Sink.written c.args.report.now) (c.equal_claims-equal.ensures.no c.if-not-equal.true)

pub returns-then-not-equal-clause-first : goal.returns-then-not-equal-clause-first
returns-then-not-equal-clause-first g c = reads_nothing _ _ _ _ _ _ tt

pub returns-then-not-equal-clause-second : goal.returns-then-not-equal-clause-second
returns-then-not-equal-clause-second g c = reads_nothing _ _ _ _ _ _ tt

pub returns-then-not-equal-clause-report : goal.returns-then-not-equal-clause-report
returns-then-not-equal-clause-report g c = writes_nothing _ _ tt

-- ---- memory ran out

pub returns-in-Err-clause-first : goal.returns-in-Err-clause-first
returns-in-Err-clause-first g c = reads_nothing _ _ _ _ _ _ tt

pub returns-in-Err-clause-second : goal.returns-in-Err-clause-second
returns-in-Err-clause-second g c = reads_nothing _ _ _ _ _ _ tt

pub returns-in-Err-clause-report : goal.returns-in-Err-clause-report
returns-in-Err-clause-report g c = writes_nothing _ _ tt

-- ---- a source failed while the rest was compared

pub returns-in-Err-are_same-clause-errors : goal.returns-in-Err-are_same-clause-errors
returns-in-Err-are_same-clause-errors g c = unjudged_reading c.in-Err-are_same.error c.in-Err-are_same.ensures.errors

pub returns-in-Err-are_same-clause-first : goal.returns-in-Err-are_same-clause-first
returns-in-Err-are_same-clause-first g c = reads_error _ _ _ _ _ _ _ _ _ (λ h. h) c.in-Err-are_same.ensures.first

pub returns-in-Err-are_same-clause-second : goal.returns-in-Err-are_same-clause-second
returns-in-Err-are_same-clause-second g c = reads_error _ _ _ _ _ _ _ _ _ (λ h. h) c.in-Err-are_same.ensures.second

pub returns-in-Err-are_same-clause-report : goal.returns-in-Err-are_same-clause-report
returns-in-Err-are_same-clause-report g c =
    writes_nothing _ _ (unwritten_reading _ _ c.in-Err-are_same.error c.in-Err-are_same.ensures.errors)

-- ---- all is equal all the same

pub returns-then-same-clause-settled : goal.returns-then-same-clause-settled
returns-then-same-clause-settled g c = λ a known b known' hash said h k.
    all_equal h k (g.W.Sink.written c.args.report.now) (c.equal_claims-equal.ensures.yes c.if-not-equal.false) ((c.in-Ok-are_same.ensures.same a known b known' hash said h k).0 c.if-same.true)

pub returns-then-same-clause-first : goal.returns-then-same-clause-first
returns-then-same-clause-first g c = reads_then _ _ _ _ _ _ _ _ _ tt c.in-Ok-are_same.ensures.first

pub returns-then-same-clause-second : goal.returns-then-same-clause-second
returns-then-same-clause-second g c = reads_then _ _ _ _ _ _ _ _ _ tt c.in-Ok-are_same.ensures.second

pub returns-then-same-clause-report : goal.returns-then-same-clause-report
returns-then-same-clause-report g c = writes_nothing _ _ tt

-- ---- evidence is written

pub returns-in-Ok-write_evidence-clause-settled : goal.returns-in-Ok-write_evidence-clause-settled
returns-in-Ok-write_evidence-clause-settled g c = λ a known b known' hash said h k.
    let rs = c.args.one.now.readings.now in
    let ss = c.args.two.now.readings.now in
    chain_written h k c.in-Some.found c.kind_of.result (g.W.Sink.written c.args.report.now) (g.W.Sink.written c.write_evidence.new.report) (c.equal_claims-equal.ensures.yes c.if-not-equal.false)
    (subst (λ (x : Option Difference). IsFirstOf (all_ingredients rs ss ++ all_unredacted rs ss) x) c.in-Some.is c.in-Ok.ensures)
    ((c.in-Ok-are_same.ensures.same a known b known' hash said h k).1 c.if-same.false) c.kind_of.ensures (λ p is. (c.in-Ok-write_evidence.ensures.wrote p is).whole)

pub returns-in-Ok-write_evidence-clause-first : goal.returns-in-Ok-write_evidence-clause-first
returns-in-Ok-write_evidence-clause-first g c = reads_then _ _ _ _ _ _ _ _ _ tt c.in-Ok-are_same.ensures.first

pub returns-in-Ok-write_evidence-clause-second : goal.returns-in-Ok-write_evidence-clause-second
returns-in-Ok-write_evidence-clause-second g c = reads_then _ _ _ _ _ _ _ _ _ tt c.in-Ok-are_same.ensures.second

pub returns-in-Ok-write_evidence-clause-report : goal.returns-in-Ok-write_evidence-clause-report
returns-in-Ok-write_evidence-clause-report g c = writes_then _ _ _ _ tt c.in-Ok-write_evidence.ensures.report

-- ---- or a prefix of it

pub returns-in-Err-write_evidence-clause-settled : goal.returns-in-Err-write_evidence-clause-settled
returns-in-Err-write_evidence-clause-settled g c = λ a known b known' hash said h k.
    let rs = c.args.one.now.readings.now in
    let ss = c.args.two.now.readings.now in
    chain_prefix h k c.in-Some.found WriteFault (g.W.Sink.written c.args.report.now) (g.W.Sink.written c.write_evidence.new.report) (c.equal_claims-equal.ensures.yes c.if-not-equal.false)
    (subst (λ (x : Option Difference). IsFirstOf (all_ingredients rs ss ++ all_unredacted rs ss) x) c.in-Some.is c.in-Ok.ensures)
    ((c.in-Ok-are_same.ensures.same a known b known' hash said h k).1 c.if-same.false) (λ p is. (c.in-Err-write_evidence.ensures.wrote p is).prefix)

pub returns-in-Err-write_evidence-clause-first : goal.returns-in-Err-write_evidence-clause-first
returns-in-Err-write_evidence-clause-first g c = reads_then _ _ _ _ _ _ _ _ _ tt c.in-Ok-are_same.ensures.first

pub returns-in-Err-write_evidence-clause-second : goal.returns-in-Err-write_evidence-clause-second
returns-in-Err-write_evidence-clause-second g c = reads_then _ _ _ _ _ _ _ _ _ tt c.in-Ok-are_same.ensures.second

pub returns-in-Err-write_evidence-clause-report : goal.returns-in-Err-write_evidence-clause-report
returns-in-Err-write_evidence-clause-report g c =
    writes_error _ _ _ WriteFault (λ h. h) c.in-Err-write_evidence.ensures.report
