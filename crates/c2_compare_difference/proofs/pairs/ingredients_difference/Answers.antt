use Rattle.std.proofs.Common.{sym, ap, ◌∙◌, []}
use Rattle.std.specs.Option.{option_map, option_map_or}
use Rattle.c2_rules.specs.Chains.{entry_label}
use Rattle.c2_rules.specs.Readings.{entries_in}
use Rattle.c2_spec.specs.declared.cbor.Ref.{Ref}
use Rattle.c2_compare_spec.specs.Differences.{ingredient_pairs}
use Rattle.c2_compare_evidence.specs.Differing.{view}
use Rattle.c2_compare_difference.proofs.Found.{each_found, each_passed}
use Rattle.c2_compare_difference.proofs.pairs.ingredients_difference.Goals as goal

-- this entry's pair is the first that differs
pub returns-in-Some : goal.returns-in-Some
returns-in-Some c =
    let left = c.args.left.now in
    let pairs = ingredient_pairs c.args.stores.now.first.now c.args.stores.now.second.now left c.args.right.now in
    each_found (λ (e : Ref). option_map_or (pairs e) (entry_label left.manifest e) []) (entries_in left)
    c.loop-k.k c.entry_at-entry.result.now (view c.in-Some.found) c.entry_at-entry.ensures c.loop-k.invariant
    (ap (option_map view) (sym c.in-Some.is) ∙ c.entry_ingredient-found.ensures)

-- no pair of this entry differs
pub loop-k-preserved : goal.loop-k-preserved
loop-k-preserved c =
    let left = c.args.left.now in
    let pairs = ingredient_pairs c.args.stores.now.first.now c.args.stores.now.second.now left c.args.right.now in
    each_passed (λ (e : Ref). option_map_or (pairs e) (entry_label left.manifest e) []) (entries_in left)
    c.loop-k.k c.entry_at-entry.result.now c.entry_at-entry.ensures c.loop-k.invariant
    (ap (option_map view) (sym c.in_default.is) ∙ c.entry_ingredient-found.ensures)
