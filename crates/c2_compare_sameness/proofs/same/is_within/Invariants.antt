use Rattle.std.proofs.Common.{◌≡◌, length}
use Rattle.c2_rules.specs.Chains.{any_below}
use Rattle.c2_compare_spec.specs.Deciding.{is_missing}
use Rattle.c2_compare_sameness.proofs.same.is_within.Given as goal

-- no manifest behind this place is missing
abbrev pub invariant-loop-n : goal.invariant-loop-n
invariant-loop-n l =
    any_below (is_missing l.first l.second) (length l.first) ≡ any_below (is_missing l.first l.second) l.n
