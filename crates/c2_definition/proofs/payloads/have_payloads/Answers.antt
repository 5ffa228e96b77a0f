use Rattle.std.proofs.Common.{rules}
use Rattle.c2_definition.proofs.PayloadSteps.{all_next, not_all, all_done}
use Rattle.c2_definition.proofs.payloads.have_payloads.Goals as goal

-- one more is for its content box
pub loop-assertion-preserved : goal.loop-assertion-preserved
loop-assertion-preserved c =
    all_next c.args.list.now c.loop-assertion.assertion-index c.assertion-item.result _ c.loop-assertion-test.true
    c.assertion-item.is c.loop-assertion.invariant c.in_ok-has_payload.ensures (search rules)

-- one isn't
pub returns-then-not-branch : goal.returns-then-not-branch
returns-then-not-branch c =
    not_all c.args.list.now c.loop-assertion.assertion-index c.assertion-item.result _ c.loop-assertion-test.true
    c.assertion-item.is c.loop-assertion.invariant c.in_ok-has_payload.ensures (search rules)

-- all are
pub returns : goal.returns
returns c =
    all_done c.args.list.now c.loop-assertion.assertion-index c.loop-assertion-test.false c.loop-assertion.invariant
