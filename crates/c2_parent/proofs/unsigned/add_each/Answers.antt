use Rattle.c2_parent.proofs.UnsignedLemmas.{box_more}
use Rattle.c2_parent.proofs.unsigned.add_each.Goals as goal

-- one box more
pub loop-k-preserved : goal.loop-k-preserved
loop-k-preserved c = λ label.
    box_more c.args.labels.now c.loop-k.labels c.add_unsigned.new.labels c.args.found.now c.loop-k.k
    c.index-found-k.result c.loop-k-test.true c.index-found-k.is c.loop-k.invariant c.in_ok-add_unsigned.ensures
    label
