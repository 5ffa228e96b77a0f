use Rattle.std.proofs.Common.{rules, ◌≡◌, ◌∙◌, ◌||◌, ◌-◌, ◌^◌, ℕ, List, Bool, sym, ap, subst}
use Rattle.std.specs.Prelude.{All}
use Rattle.std.proofs.lemmas.List.Sorted.{All-permutation, IsNonDecreasingBy-from_sort_by_key, list_any-IsPermutation}
use Rattle.c2_base.specs.declared.values.Range.{Range}
use Rattle.c2_spec.specs.Cover.{holds, is_excluded}
use Rattle.c2_bmff_excluded.specs.Marks.{IsRangeWithin}
use Rattle.c2_bmff_excluded.specs.Parts.{AreRising}
use Rattle.c2_bmff_excluded.proofs.RangeLemmas.{grows_as, on_err}
use Rattle.c2_bmff_excluded.proofs.marking.add_sorted.Goals as goal

-- sorted, they end no later than they did
pub add_each-requires-clause-fits : goal.add_each-requires-clause-fits
add_each-requires-clause-fits c =
    subst (All (IsRangeWithin (2 ^ 64 - 1))) (sym c.as_slice.ensures.value)
    (All-permutation (IsRangeWithin (2 ^ 64 - 1)) c.args.others.now.items c.sort_unstable_by_key.new.self.items c.sort_unstable_by_key.ensures.permutation c.requires.fits)

-- sorted, the ranges hold the same positions
pub returns-clause-same : goal.returns-clause-same
returns-clause-same c i =
    c.in_ok-add_each.ensures.same i
    ∙ ap (λ (b : Bool). is_excluded c.args.ranges.now.items i || b)
    (ap (λ (rs : List Range). is_excluded rs i) c.as_slice.ensures.value
    ∙ sym (list_any-IsPermutation (holds i) c.args.others.now.items c.sort_unstable_by_key.new.self.items c.sort_unstable_by_key.ensures.permutation))

-- and none ends later
pub returns-clause-within : goal.returns-clause-within
returns-clause-within c n old all =
    c.in_ok-add_each.ensures.within n old
    (subst (All (IsRangeWithin n)) (sym c.as_slice.ensures.value) (All-permutation (IsRangeWithin n) c.args.others.now.items c.sort_unstable_by_key.new.self.items c.sort_unstable_by_key.ensures.permutation all))

-- without memory for one, some of them were added
pub returns-in_err-add_each-clause-some : goal.returns-in_err-add_each-clause-some
returns-in_err-add_each-clause-some c =
    let same : (i : ℕ) → is_excluded c.as_slice.result.now i ≡ is_excluded c.args.others.now.items i = λ i.
    ap (λ (rs : List Range). is_excluded rs i) c.as_slice.ensures.value
    ∙ sym (list_any-IsPermutation (holds i) c.args.others.now.items c.sort_unstable_by_key.new.self.items c.sort_unstable_by_key.ensures.permutation) in
    on_err c.from_residual.result
    (grows_as (is_excluded c.as_slice.result.now) (is_excluded c.args.others.now.items) c.args.ranges.now.items c.add_each.new.ranges.items same c.in_err-add_each.ensures.some)

-- of which none ends later
pub returns-in_err-add_each-clause-within : goal.returns-in_err-add_each-clause-within
returns-in_err-add_each-clause-within c n old all =
    c.in_err-add_each.ensures.within n old
    (subst (All (IsRangeWithin n)) (sym c.as_slice.ensures.value) (All-permutation (IsRangeWithin n) c.args.others.now.items c.sort_unstable_by_key.new.self.items c.sort_unstable_by_key.ensures.permutation all))

-- sorted and added to none, they are apart
pub returns-clause-apart : goal.returns-clause-apart
returns-clause-apart c none =
    c.in_ok-add_each.ensures.apart
    (subst AreRising (sym c.as_slice.ensures.value) (IsNonDecreasingBy-from_sort_by_key (λ (r : Range). r.start) _ c.sort_unstable_by_key.ensures.sorted (λ a r q k. search rules)))
    none
