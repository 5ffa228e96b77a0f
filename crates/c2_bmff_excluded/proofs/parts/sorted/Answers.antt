use Rattle.std.proofs.Common.{rules}
use Rattle.std.proofs.lemmas.List.Sorted.{IsNonDecreasingBy-from_sort_by_key}
use Rattle.c2_base.specs.declared.values.Range.{Range}
use Rattle.c2_bmff_excluded.proofs.parts.sorted.Goals as goal

-- the parts are sorted by their starts
pub returns-clause-rising : goal.returns-clause-rising
returns-clause-rising c =
    IsNonDecreasingBy-from_sort_by_key (λ (r : Range). r.start) _ c.sort_unstable_by_key.ensures.sorted
    (λ a r q k. search rules)
