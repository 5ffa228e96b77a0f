use Rattle.std.proofs.Common.{rules, arith, sym, ◌∙◌, ◌+◌, ◌≤◌}
use Rattle.std.proofs.lemmas.List.Sorted.{IsNonDecreasingBy-from_sort_by_key, list_any-IsPermutation, All-permutation}
use Rattle.std.proofs.lemmas.List.Elements.{recursion_from_All}
use Rattle.c2_base.specs.declared.values.Range.{Range}
use Rattle.c2_spec.specs.Cover.{holds}
use Rattle.c2_cover.proofs.MergingSteps.{cover_of, sorted_order}
use Rattle.c2_cover.proofs.cover.cover_without.Goals as goal

-- sorted by their starts, the ranges rise and still end in the file
pub merged-requires : goal.merged-requires
merged-requires c =
    sorted_order c.args.size 0 c.sort_unstable_by_key.new.self
    (IsNonDecreasingBy-from_sort_by_key (λ (r : Range). r.start) _ c.sort_unstable_by_key.ensures.sorted (λ a r q k. search rules))
    (recursion_from_All (λ (r : Range). r.start + r.length ≤ c.args.size) _ (All-permutation (λ (r : Range). r.start + r.length ≤ c.args.size) c.args.ranges.now _ c.sort_unstable_by_key.ensures.permutation c.requires))
    (λ d some. omega arith)

-- the merged ranges exclude what the given ones do in their old order, so they make the cover
pub returns-clause-cover : goal.returns-clause-cover
returns-clause-cover c =
    cover_of c.args.size c.args.ranges.now _ _ c.new-offsets.ensures.items
    (λ i. c.in_ok-ranges.ensures.same i ∙ sym (list_any-IsPermutation (holds i) c.args.ranges.now c.sort_unstable_by_key.new.self c.sort_unstable_by_key.ensures.permutation))
