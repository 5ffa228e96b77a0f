use Rattle.std.proofs.Common.{◌≡◌, drop, []}
use Rattle.std.specs.List.{find, flat_map}
use Rattle.std.specs.Option.{option_map, option_map_or}
use Rattle.c2_rules.specs.Chains.{entry_label}
use Rattle.c2_rules.specs.Readings.{entries_in}
use Rattle.c2_spec.specs.declared.cbor.Ref.{Ref}
use Rattle.c2_compare_spec.specs.Evidence.{do_differ}
use Rattle.c2_compare_evidence.specs.Shown.{shown}
use Rattle.c2_compare_spec.specs.Differences.{ingredient_pairs}
use Rattle.c2_compare_difference.proofs.pairs.ingredients_difference.Given as goal

-- no pair of the entries before this one differs
abbrev pub invariant-loop-k : goal.invariant-loop-k
invariant-loop-k l =
    let pairs =
    λ (e : Ref). option_map_or (ingredient_pairs l.stores.first.now l.stores.second.now l.left l.right e)
    (entry_label l.left.manifest e) [] in
    option_map shown (find do_differ (flat_map pairs (entries_in l.left))) ≡ option_map shown
    (find do_differ (flat_map pairs (drop l.k (entries_in l.left))))
