use Rattle.std.proofs.Common.{ℕ}
use Rattle.c2_rules.specs.Readings.{ReadBox}
use Rattle.c2_rules.specs.Rules.{box_test}
use Rattle.c2_rules.proofs.TestLemmas.{over_failed, over_held}
use Rattle.c2_check_claim.proofs.boxes.check_boxes.Goals as goal

-- where entries list all boxes before it, a box that no entry lists is the first failure
pub returns-then-is_unlisted : goal.returns-then-is_unlisted
returns-then-is_unlisted c =
    over_failed (λ (k : ℕ) (b : ReadBox). box_test c.args.own.now b) c.args.boxes.now c.loop-k.k c.index-boxes-k.result
    c.is_unlisted.result c.at_unlisted.result c.loop-k-test.true c.index-boxes-k.is c.loop-k.invariant
    c.if-is_unlisted.true c.is_unlisted.ensures c.at_unlisted.ensures

-- where an entry lists this box too, the first box that none lists is among the rest
pub loop-k-preserved : goal.loop-k-preserved
loop-k-preserved c =
    over_held (λ (k : ℕ) (b : ReadBox). box_test c.args.own.now b) c.args.boxes.now c.loop-k.k c.index-boxes-k.result
    c.is_unlisted.result c.loop-k-test.true c.index-boxes-k.is c.loop-k.invariant c.if-is_unlisted.false
    c.is_unlisted.ensures
