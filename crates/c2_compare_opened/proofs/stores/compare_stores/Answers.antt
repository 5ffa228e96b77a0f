use Rattle.c2_compare_spec.proofs.TheLaws.{a_first_difference_is_real_real}
use Rattle.std.proofs.Common.{Ok, sym, subst}
use Rattle.c2_compare_spec.specs.declared.compared.Compared.{Compared}
use Rattle.c2_calls_spec.proofs.SinkLemmas.{writes_error, writes_then}
use Rattle.c2_calls_spec.proofs.SourceLemmas.{reads_error, reads_then}
use Rattle.c2_compare_opened.specs.Comparing.{IsComparedAs}
use Rattle.c2_compare_opened.proofs.ByStores.{failed, settled_as}
use Rattle.c2_compare_opened.proofs.stores.compare_stores.Goals as goal

-- ---- the files come to something

-- which is what is answered
pub returns-in-Ok-clause-compared : goal.returns-in-Ok-clause-compared
returns-in-Ok-clause-compared g c = λ a known b known' hash said one two.
    subst
    (λ (x : Compared). IsComparedAs hash said a b (g.W.Sink.written c.args.report.now) (g.W.Sink.written c.settle.new.report) (Ok x))
    (sym c.compared.ensures)
    (settled_as hash said a b one.store two.store one.accepted two.accepted
    (λ s t one p q. a_first_difference_is_real_real hash said a b s t one p q) c.args.one.now.summary
    (g.W.Sink.written c.args.report.now) (g.W.Sink.written c.settle.new.report) one.counted c.in-Ok.settled
    (c.in-Ok.ensures.settled a known b known' hash said one two))

pub returns-in-Ok-clause-first : goal.returns-in-Ok-clause-first
returns-in-Ok-clause-first g c = reads_then _ _ _ _ _ _ _ _ _ tt c.in-Ok.ensures.first

pub returns-in-Ok-clause-second : goal.returns-in-Ok-clause-second
returns-in-Ok-clause-second g c = reads_then _ _ _ _ _ _ _ _ _ tt c.in-Ok.ensures.second

pub returns-in-Ok-clause-report : goal.returns-in-Ok-clause-report
returns-in-Ok-clause-report g c = writes_then _ _ _ _ tt c.in-Ok.ensures.report

-- ---- the call failed

-- what was written is a prefix of the text
pub returns-in-Err-clause-compared : goal.returns-in-Err-clause-compared
returns-in-Err-clause-compared g c = λ a known b known' hash said one two.
    failed hash said a b one.store two.store one.accepted two.accepted
    (λ s t one p q. a_first_difference_is_real_real hash said a b s t one p q) c.in-Err.error
    (g.W.Sink.written c.args.report.now) (g.W.Sink.written c.settle.new.report)
    (c.in-Err.ensures.settled a known b known' hash said one two)

pub returns-in-Err-clause-first : goal.returns-in-Err-clause-first
returns-in-Err-clause-first g c = reads_error _ _ _ _ _ _ _ _ _ (λ h. h) c.in-Err.ensures.first

pub returns-in-Err-clause-second : goal.returns-in-Err-clause-second
returns-in-Err-clause-second g c = reads_error _ _ _ _ _ _ _ _ _ (λ h. h) c.in-Err.ensures.second

pub returns-in-Err-clause-report : goal.returns-in-Err-clause-report
returns-in-Err-clause-report g c = writes_error _ _ _ _ (λ h. h) c.in-Err.ensures.report
