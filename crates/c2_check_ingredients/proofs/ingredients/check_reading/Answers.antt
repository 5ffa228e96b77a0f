use Rattle.std.proofs.Common.{ℕ, List, option_map, sym, ap, ◌∙◌}
use Rattle.c2_spec.specs.C2pa.Assertion.{manifest_named}
use Rattle.c2_rules.specs.Rules.{assertion_box_uri, standing_tests, reference_tests}
use Rattle.c2_read_manifests.specs.Placed.{seen_in, standing_in}
use Rattle.c2_rules.proofs.TestLemmas.{by_some}
use Rattle.c2_check_ingredients.proofs.ingredients.check_reading.Goals as goal

-- what fails by the manifest whose label an ingredient names fails by the ingredient
pub returns : goal.returns
returns g c =
    let hash = g.H.Hashing.digest_of in
    let own = c.args.own.now in
    let at = c.args.store.now.at in
    let sign = c.args.g.now.signature in
    let manifest = c.in-Some.manifest in
    let uri : List ℕ = assertion_box_uri own (option_map (λ x. x.now) c.args.name) in
    by_some (reference_tests hash (seen_in at own) uri sign) c.args.g.now.manifest manifest _ c.check_named.result
    c.in-Some.is
    (by_some (λ (label : List ℕ). standing_tests hash own uri manifest sign (standing_in at label))
    (manifest_named manifest.url) c.in-Some-label_named.label.now _ c.check_named.result
    (ap manifest_named (sym c.as_str.ensures.value) ∙ sym c.in-Some-label_named.ensures) c.check_named.ensures)
