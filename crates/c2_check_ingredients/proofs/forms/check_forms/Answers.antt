use Rattle.std.proofs.Common.{ℕ}
use Rattle.c2_rules.specs.Readings.{ReadBox}
use Rattle.c2_rules.specs.Rules.{form_tests}
use Rattle.c2_read_manifests.specs.Placed.{seen_in}
use Rattle.c2_rules.proofs.TestLemmas.{each_failed}
use Rattle.c2_check_ingredients.proofs.forms.check_forms.Goals as goal

-- where all boxes before it pass, what fails of this one's form fails first of all
pub returns-in-Some : goal.returns-in-Some
returns-in-Some c =
    each_failed (λ (k : ℕ) (b : ReadBox). form_tests (seen_in c.args.at.now c.args.own.now) b) c.args.boxes.now c.loop-k.k c.index-boxes-k.result c.in_ok-found.found c.in-Some.failing c.loop-k-test.true c.index-boxes-k.is
    c.loop-k.invariant c.in-Some.is c.in_ok-found.ensures
