use Rattle.std.proofs.Common.{◌∙◌, None, Option, Some, ap, sym}
use Rattle.std.specs.List.{find}
use Rattle.std.specs.Option.{option_map}
use Rattle.c2_rules.specs.Readings.{Reading}
use Rattle.c2_spec.specs.declared.assertion.Ingredient.{Ingredient}
use Rattle.c2_compare_spec.specs.Differences.{box_pair, ingredient_with, named_pairs}
use Rattle.c2_compare_spec.specs.Evidence.{do_differ}
use Rattle.c2_compare_evidence.specs.Differing.{view}
use Rattle.c2_compare_evidence.specs.Shown.{shown}
use Rattle.c2_compare_difference.proofs.Found.{found_first, found_second}
use Rattle.c2_compare_difference.proofs.pairs.ingredient_difference.Goals as goal

-- the boxes differ
pub returns-in-Some : goal.returns-in-Some
returns-in-Some c =
    let left = c.args.left.now in
    let stores = c.args.stores.now in
    found_first (box_pair left c.args.right.now c.args.entry.now c.args.name.now)
    (named_pairs stores.first.now stores.second.now left (ingredient_with left c.args.name.now))
    (view c.in-Some.found)
    (ap (option_map view) (sym c.in-Some.is) ∙ c.box_difference.ensures)

-- or what the ingredient names does
pub returns-in-Some-ingredient_with : goal.returns-in-Some-ingredient_with
returns-in-Some-ingredient_with c =
    let left = c.args.left.now in
    let pairs = named_pairs c.args.stores.now.first.now c.args.stores.now.second.now in
    let g = c.in-Some-ingredient_with.g.now in
    found_second (box_pair left c.args.right.now c.args.entry.now c.args.name.now)
    (pairs left (ingredient_with left c.args.name.now)) (option_map view c.named_difference.result)
    (ap (option_map view) (sym c.in_default.is) ∙ c.box_difference.ensures)
    (c.named_difference.ensures
    ∙ ap (λ (r : Reading). option_map shown (find do_differ (pairs r (Some g)))) c.owner.ensures
    ∙ ap (λ (i : Option Ingredient). option_map shown (find do_differ (pairs left i)))
    (ap (option_map (λ i. i.now)) (sym c.in-Some-ingredient_with.is) ∙ c.ingredient_with.ensures))

-- it is no ingredient
pub returns-in-None : goal.returns-in-None
returns-in-None c =
    let left = c.args.left.now in
    let pairs = named_pairs c.args.stores.now.first.now c.args.stores.now.second.now in
    found_second (box_pair left c.args.right.now c.args.entry.now c.args.name.now)
    (pairs left (ingredient_with left c.args.name.now)) None
    (ap (option_map view) (sym c.in_default.is) ∙ c.box_difference.ensures)
    (ap (λ (i : Option Ingredient). option_map shown (find do_differ (pairs left i)))
    (ap (option_map (λ i. i.now)) (sym c.in-None.is) ∙ c.ingredient_with.ensures))
