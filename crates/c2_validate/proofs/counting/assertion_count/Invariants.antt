use Rattle.std.proofs.Common.{◌≡◌, length}
use Rattle.c2_rules.specs.CheckList.{kept_labels}
use Rattle.c2_rules.specs.Tests.{downward}
use Rattle.c2_validate.proofs.counting.assertion_count.Given as goal

abbrev pub invariant-loop-i : goal.invariant-loop-i
invariant-loop-i l = length l.found.items ≡ length (downward (kept_labels l.chain.readings) l.i)
