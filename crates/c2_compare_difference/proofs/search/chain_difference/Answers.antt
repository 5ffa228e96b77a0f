use Rattle.std.proofs.Common.{ap, sym, ◌∙◌}
use Rattle.std.specs.Option.{option_map}
use Rattle.c2_compare_spec.specs.Differences.{all_ingredients, all_unredacted}
use Rattle.c2_compare_evidence.specs.Differing.{view}
use Rattle.c2_compare_difference.proofs.Found.{found_after, found_in_first}
use Rattle.c2_compare_difference.proofs.search.chain_difference.Goals as goal

-- what leads to ingredients differs
pub returns-in-Some : goal.returns-in-Some
returns-in-Some c =
    found_in_first (all_ingredients c.args.first.now c.args.second.now) (all_unredacted c.args.first.now c.args.second.now) (view c.in-Some.found)
    (ap (option_map view) (sym c.in-Some.is) ∙ c.in_ok-found.ensures)

-- or an assertion does, or nothing
pub returns : goal.returns
returns c =
    found_after (all_ingredients c.args.first.now c.args.second.now) (all_unredacted c.args.first.now c.args.second.now)
    c.all_unredacted.result
    (ap (option_map view) (sym c.in_default.is) ∙ c.in_ok-found.ensures) c.all_unredacted.ensures
