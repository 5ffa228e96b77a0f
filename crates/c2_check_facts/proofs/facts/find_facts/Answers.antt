use Rattle.c2_check_facts.proofs.FactLemmas.{facts_more, count_more}
use Rattle.c2_check_facts.proofs.facts.find_facts.Goals as goal

-- with one manifest more looked at, there is a fact or none for each so far, and those there are right
pub loop-m-preserved : goal.loop-m-preserved
loop-m-preserved g c = record {
  count =
      count_more c.loop-m.found.items c.push.new.self.items c.some_fact-fact.result c.loop-m.m c.loop-m.invariant.count
      c.in_ok-push.ensures.items;
  right =
      facts_more g.H.Hashing.digest_of c.args.all.now c.loop-m.m c.loop-m.found.items c.push.new.self.items
      c.some_fact-fact.result c.loop-m.invariant.right c.loop-m.invariant.count c.some_fact-fact.ensures
      c.in_ok-push.ensures.items;
}
