use Rattle.std.proofs.Common.{◌≡◌, ◌+◌, filter, length, take}
use Rattle.c2_rules.specs.Chains.{is_redacted}
use Rattle.c2_validate.specs.Counts.{keeps}
use Rattle.c2_validate.proofs.counting.push_kept.Given as goal

abbrev pub invariant-loop-k : goal.invariant-loop-k
invariant-loop-k l =
    length l.found.items ≡ length l.initial.found.items + length
    (filter (keeps (is_redacted l.chain.readings l.i) l.own.manifest) (take l.k l.entries))
