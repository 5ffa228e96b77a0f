use Rattle.std.proofs.Common.{arith}
use Rattle.c2_rules.specs.CheckList.{asked_at}
use Rattle.c2_cmd_reading.proofs.Asked.{all_start, down_more}
use Rattle.c2_cmd_reading.proofs.prepare.all_asked.Goals as goal

-- before the first step nothing is listed, and every manifest of the chain is still to come
pub loop-i-init : goal.loop-i-init
loop-i-init c = record {
  within = omega arith;
  so_far =
      all_start c.args.tree.now c.args.store.now c.args.chain.now _ _ c.requires c.new-asked.ensures.items
      c.manifest_count-i.ensures.count;
}

-- a step lists the next manifest down where it is reached, and leaves those below it to come
pub loop-i-preserved : goal.loop-i-preserved
loop-i-preserved c = record {
  within = omega (arith, c.loop-i.invariant.within);
  so_far =
      down_more (asked_at c.args.chain.now.readings) _ _ _ c.loop-i.i c.loop-i-test.true c.loop-i.invariant.so_far
      c.in_ok-push_asked.ensures;
}
