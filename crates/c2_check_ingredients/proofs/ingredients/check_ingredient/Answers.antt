use Rattle.std.proofs.Common.{◌≡◌, ℕ, List, Option, IfOk, sym, ◌∙◌, subst}
use Rattle.c2_rules.specs.Rules.{assertion_box_uri, child_tests}
use Rattle.c2_read_manifests.specs.Placed.{seen_in}
use Rattle.c2_rules.specs.Tests.{first_failing}
use Rattle.c2_rules.proofs.TestLemmas.{by_value}
use Rattle.c2_check_ingredients.proofs.ingredients.check_ingredient.Goals as goal

-- what fails of a box's ingredient, at the box's URI, fails of the box
pub returns-in-Value : goal.returns-in-Value
returns-in-Value g c =
    by_value (child_tests g.H.Hashing.digest_of (seen_in c.args.store.now.at c.args.own.now) (assertion_box_uri c.args.own.now c.args.b.now.boxed.label)) c.args.b.now.ingredient c.in-Value.g _ c.check_reading.result
    (sym c.ingredient.ensures ∙ c.in-Value.is)
    (subst (λ (label : Option (List ℕ)). IfOk c.check_reading.result (λ found. found ≡ first_failing (child_tests g.H.Hashing.digest_of (seen_in c.args.store.now.at c.args.own.now) (assertion_box_uri c.args.own.now label) c.in-Value.g)))
    c.box_label.ensures c.check_reading.ensures)
