use Rattle.std.proofs.Common.{◌≡◌, ℕ, drop}
use Rattle.c2_rules.specs.Readings.{ReadBox}
use Rattle.c2_rules.specs.Rules.{form_tests}
use Rattle.c2_read_manifests.specs.Placed.{seen_in}
use Rattle.c2_rules.specs.Tests.{each, first_failing}
use Rattle.c2_check_ingredients.proofs.forms.check_forms.Given as goal

-- the boxes that were passed have their form: what fails first of all is among the rest
abbrev pub invariant-loop-k : goal.invariant-loop-k
invariant-loop-k l =
    let tests = λ (k : ℕ) (b : ReadBox). form_tests (seen_in l.at l.own) b in
    first_failing (each tests 0 l.boxes) ≡ first_failing (each tests l.k (drop l.k l.boxes))
