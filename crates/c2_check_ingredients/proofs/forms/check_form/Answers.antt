use Rattle.std.proofs.Common.{◌≡◌, ℕ, List, IfOk, sym, ap, subst}
use Rattle.c2_spec.specs.declared.assertion.Ingredient.{Ingredient}
use Rattle.c2_rules.specs.Chains.{label_in}
use Rattle.c2_rules.specs.Ingredients.{assertion_uri}
use Rattle.c2_rules.specs.Rules.{label_kind, kind_tests}
use Rattle.c2_rules.specs.Tests.{Test, first_failing}
use Rattle.c2_rules.specs.declared.parsed.Parsed.{Parsed}
use Rattle.c2_rules.proofs.TestLemmas.{by_some}
use Rattle.c2_read_manifests.specs.Placed.{standing_in}
use Rattle.c2_check_ingredients.proofs.forms.check_form.Goals as goal

-- what fails of a box by the kind that its label tells fails of the box by its form
pub returns-in-Some : goal.returns-in-Some
returns-in-Some c =
    let tests : List ℕ → Parsed Ingredient → List Test =
    λ l p. kind_tests (standing_in c.args.at.now) (assertion_uri (label_in c.args.own.now) l) p (label_kind l) in
    by_some (λ (l : List ℕ). tests l c.args.b.now.ingredient) c.args.b.now.boxed.label c.in-Some.name.now _
    c.check_kind.result (sym c.in-Some.ensures)
    (subst (λ (ts : List Test). IfOk c.check_kind.result (λ found. found ≡ first_failing ts))
    (ap (tests c.in-Some.name.now) c.ingredient.ensures) c.check_kind.ensures)
