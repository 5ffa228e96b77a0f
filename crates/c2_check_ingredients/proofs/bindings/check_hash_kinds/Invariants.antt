use Rattle.std.proofs.Common.{◌≡◌, drop, map}
use Rattle.c2_rules.specs.Rules.{hash_kind_test}
use Rattle.c2_read_manifests.specs.Placed.{seen_in}
use Rattle.c2_rules.specs.Tests.{over_all, first_failing}
use Rattle.c2_check_ingredients.proofs.bindings.check_hash_kinds.Given as goal

-- no label that was passed is refused: what fails first of all labels is among the rest
abbrev pub invariant-loop-k : goal.invariant-loop-k
invariant-loop-k l =
    let test_of = hash_kind_test (seen_in l.at l.own) in
    first_failing (over_all test_of 0 (map (λ x. x.now) l.labels)) ≡ first_failing
    (over_all test_of l.k (drop l.k (map (λ x. x.now) l.labels)))
