use Rattle.std.proofs.Common.{◌≡◌, length}
use Rattle.std.specs.List.{find}
use Rattle.std.specs.Option.{option_map}
use Rattle.c2_rules.specs.Tests.{downward}
use Rattle.c2_compare_spec.specs.Differences.{ingredients_at}
use Rattle.c2_compare_spec.specs.Evidence.{do_differ}
use Rattle.c2_compare_evidence.specs.Shown.{shown}
use Rattle.c2_compare_difference.proofs.search.all_ingredients.Given as goal

-- no pair of the manifests behind this place differs
abbrev pub invariant-loop-n : goal.invariant-loop-n
invariant-loop-n l =
    let pairs = ingredients_at l.first l.second in
    option_map shown (find do_differ (downward pairs (length l.first))) ≡ option_map shown
    (find do_differ (downward pairs l.n))
