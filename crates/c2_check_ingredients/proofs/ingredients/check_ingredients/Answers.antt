use Rattle.std.proofs.Common.{ℕ}
use Rattle.c2_rules.specs.Readings.{ReadBox}
use Rattle.c2_rules.specs.Rules.{ingredient_tests}
use Rattle.c2_read_manifests.specs.Placed.{seen_in}
use Rattle.c2_rules.proofs.TestLemmas.{each_failed}
use Rattle.c2_check_ingredients.proofs.ingredients.check_ingredients.Goals as goal

-- where all ingredient boxes before it pass, what fails of this one fails first of all
pub returns-in-Some : goal.returns-in-Some
returns-in-Some g c =
    each_failed
    (λ (k : ℕ) (b : ReadBox). ingredient_tests g.H.Hashing.digest_of (seen_in c.args.store.now.at c.args.own.now) b)
    c.args.boxes.now c.loop-k.k c.index-boxes-k.result c.in_ok-found.found c.in-Some.failing c.loop-k-test.true c.index-boxes-k.is c.loop-k.invariant c.in-Some.is c.in_ok-found.ensures
