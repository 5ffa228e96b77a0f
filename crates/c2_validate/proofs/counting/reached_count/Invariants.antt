use Rattle.std.proofs.Common.{◌≡◌, ◌≤◌, length, filter}
use Rattle.std.specs.List.{range_with_len}
use Rattle.c2_rules.specs.Chains.{is_reached}
use Rattle.c2_validate.proofs.counting.reached_count.Given as goal

abbrev pub invariant-loop-i : goal.invariant-loop-i
invariant-loop-i l = record {
  counted : l.found ≡ length (filter (is_reached l.chain.readings) (range_with_len 0 l.i));
  below : l.found ≤ l.i;
}
