use Rattle.std.proofs.Common.{◌≡◌, length}
use Rattle.c2_check_facts.proofs.FactLemmas.{AreRight}
use Rattle.c2_check_facts.proofs.facts.find_facts.Given as goal

-- each manifest that was passed has its fact or none, and the facts that are there are right
abbrev pub invariant-loop-m : goal.invariant-loop-m
invariant-loop-m g l = record {
  count : length l.found.items ≡ l.m;
  right : AreRight g.H.Hashing.digest_of l.all l.found.items;
}
