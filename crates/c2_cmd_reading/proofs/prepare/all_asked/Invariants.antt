use Rattle.std.proofs.Common.{◌≡◌, ◌≤◌, ◌++◌, length}
use Rattle.c2_rules.specs.CheckList.{all_asked, asked_at}
use Rattle.c2_rules.specs.Tests.{downward}
use Rattle.c2_cmd_reading.proofs.prepare.all_asked.Given as goal

-- what is listed so far, then the reached ones of the first `i` manifests, are all that are asked of
abbrev pub invariant-loop-i : goal.invariant-loop-i
invariant-loop-i l = record {
  within : l.i ≤ length l.chain.manifests;
  so_far : all_asked l.chain.readings ≡ l.asked.items ++ downward (asked_at l.chain.readings) l.i;
}
