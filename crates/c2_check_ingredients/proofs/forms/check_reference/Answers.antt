use Rattle.std.proofs.Common.{ℕ, List, option_and_then, sym, ap, ◌∙◌}
use Rattle.c2_spec.specs.C2pa.Assertion.{manifest_named}
use Rattle.c2_spec.specs.declared.cbor.Ref.{Ref}
use Rattle.c2_rules.specs.Chains.{label_in}
use Rattle.c2_rules.specs.Ingredients.{assertion_uri}
use Rattle.c2_rules.specs.Rules.{order_tests}
use Rattle.c2_read_manifests.specs.Placed.{standing_in}
use Rattle.c2_rules.proofs.TestLemmas.{by_some}
use Rattle.c2_check_ingredients.proofs.forms.check_reference.Goals as goal

-- what fails by the place of the manifest that an ingredient names fails by the ingredient
pub returns-in-Some-named : goal.returns-in-Some-named
returns-in-Some-named c =
    by_some (λ (l : List ℕ). order_tests (assertion_uri (label_in c.args.own.now) c.args.name.now) (standing_in c.args.at.now l)) (option_and_then (λ (ref : Ref). manifest_named ref.url) c.args.g.now.manifest) c.in-Some-named.target.now _
    c.check_order.result (ap (option_and_then (λ (ref : Ref). manifest_named ref.url)) c.in-Some.is ∙ ap manifest_named (sym c.as_str.ensures.value) ∙ sym c.in-Some-named.ensures) c.check_order.ensures
