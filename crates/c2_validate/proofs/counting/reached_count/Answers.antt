use Rattle.c2_rules.specs.Chains.{is_reached}
use Rattle.c2_validate.proofs.CountLemmas.{places_step, step_below}
use Rattle.c2_validate.proofs.counting.reached_count.Goals as goal

pub loop-i-preserved : goal.loop-i-preserved
loop-i-preserved c = record {
  counted =
      places_step (is_reached c.args.chain.now.readings) c.loop-i.i c.loop-i.found c.one_if-one.result c.reached.result
      c.loop-i.invariant.counted c.reached.ensures.value c.one_if-one.ensures;
  below =
      step_below c.loop-i.i c.loop-i.found c.one_if-one.result c.reached.result c.loop-i.invariant.below
      c.one_if-one.ensures;
}
