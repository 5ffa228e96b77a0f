use Rattle.std.proofs.Common.{◌≡◌, ◌≤◌, length, filter, take}
use Rattle.c2_rules.specs.Rules.{reads_parent}
use Rattle.c2_check_ingredients.proofs.bindings.count_parents.Given as goal

-- the passed boxes that read as parents are counted, and are no more than were passed
abbrev pub invariant-loop-k : goal.invariant-loop-k
invariant-loop-k l = record {
  counted : l.count ≡ length (filter reads_parent (take l.k l.boxes));
  small : l.count ≤ l.k;
}
