use Rattle.std.proofs.Common.{◌≡◌, ℕ, drop}
use Rattle.c2_rules.specs.Readings.{ReadBox}
use Rattle.c2_rules.specs.Rules.{ingredient_tests}
use Rattle.c2_read_manifests.specs.Placed.{seen_in}
use Rattle.c2_rules.specs.Tests.{each, first_failing}
use Rattle.c2_check_ingredients.proofs.ingredients.check_ingredients.Given as goal

-- the ingredient boxes that were passed hold: what fails first of all is among the rest
abbrev pub invariant-loop-k : goal.invariant-loop-k
invariant-loop-k g l =
    let tests = λ (k : ℕ) (b : ReadBox). ingredient_tests g.H.Hashing.digest_of (seen_in l.store.at l.own) b in
    first_failing (each tests 0 l.boxes) ≡ first_failing (each tests l.k (drop l.k l.boxes))
