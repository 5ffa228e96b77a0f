use Rattle.std.proofs.Common.{◌+◌, ℕ, ap, length, sym, ◌∙◌}
use Rattle.c2_rules.specs.CheckList.{kept_labels}
use Rattle.c2_validate.proofs.CountLemmas.{below_next}
use Rattle.c2_validate.proofs.counting.assertion_count.Goals as goal

-- the labels of one place more are counted
pub loop-i-preserved : goal.loop-i-preserved
loop-i-preserved c =
    let labels = kept_labels c.args.chain.now.readings in
    c.in_ok-push_reached.ensures ∙ ap (λ (n : ℕ). n + length (labels c.loop-i.i)) c.loop-i.invariant
    ∙ sym (below_next labels c.loop-i.i)
