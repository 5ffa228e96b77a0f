use Rattle.c2_compare_spec.proofs.TheLaws.{a_test_decides_content}
use Rattle.c2_calls_spec.proofs.SourceLemmas.{reads_nothing}
use Rattle.c2_compare_opened.proofs.Outcomes.{no_content, said_of, with_content}
use Rattle.c2_compare_opened.proofs.settling.are_same.Goals as goal

-- memory ran out
pub returns-in-Err-clause-first : goal.returns-in-Err-clause-first
returns-in-Err-clause-first g c = reads_nothing _ _ _ _ _ _ tt

pub returns-in-Err-clause-second : goal.returns-in-Err-clause-second
returns-in-Err-clause-second g c = reads_nothing _ _ _ _ _ _ tt

-- the chain contents differ
pub returns-then-not-content-clause-same : goal.returns-then-not-content-clause-same
returns-then-not-content-clause-same g c = λ a known b known' hash said h k.
    no_content h k (a_test_decides_content hash said a b h.store k.store h.accepted k.accepted) c.in-Ok.content c.in-Ok.ensures c.if-not-content.true

pub returns-then-not-content-clause-first : goal.returns-then-not-content-clause-first
returns-then-not-content-clause-first g c = reads_nothing _ _ _ _ _ _ tt

pub returns-then-not-content-clause-second : goal.returns-then-not-content-clause-second
returns-then-not-content-clause-second g c = reads_nothing _ _ _ _ _ _ tt

-- they are equal: the covered texts decide
pub returns-clause-same : goal.returns-clause-same
returns-clause-same g c = λ a known b known' hash said h k.
    said_of h k c.same_covered.result (g.A.Source.known c.args.first.now) (g.B.Source.known c.args.second.now) known
    known'
    (with_content h k (a_test_decides_content hash said a b h.store k.store h.accepted k.accepted) c.in-Ok.content c.in-Ok.ensures c.if-not-content.false)
    c.same_covered.ensures.same
