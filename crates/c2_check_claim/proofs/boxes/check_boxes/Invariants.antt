use Rattle.std.proofs.Common.{◌≡◌, ℕ, drop}
use Rattle.c2_rules.specs.Readings.{ReadBox}
use Rattle.c2_rules.specs.Rules.{box_test}
use Rattle.c2_rules.specs.Tests.{over_all, first_failing}
use Rattle.c2_check_claim.proofs.boxes.check_boxes.Given as goal

-- entries list the boxes that were passed: the first that none lists is among the rest
abbrev pub invariant-loop-k : goal.invariant-loop-k
invariant-loop-k l =
    let test_of = λ (k : ℕ) (b : ReadBox). box_test l.own b in
    first_failing (over_all test_of 0 l.boxes) ≡ first_failing (over_all test_of l.k (drop l.k l.boxes))
