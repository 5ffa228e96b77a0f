use Rattle.c2_layout.proofs.Sizes.{counted}
use Rattle.c2_layout.proofs.size.boxes_len.Goals as goal

pub returns : goal.returns
returns c =
    counted c.args.all.now c.loop-assertion.assertion-index c.loop-assertion.len _ c.loop-assertion-test.false
    c.loop-assertion.invariant
