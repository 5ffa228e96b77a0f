use Rattle.std.proofs.Common.{◌≤◌, ◌∙◌, ap, arith, length}
use Rattle.c2_cover.specs.Covers.{Covered}
use Rattle.c2_cover.proofs.CountLemmas.{next_of, counts_more, counts_all}
use Rattle.c2_cover.proofs.PassingLemmas.{kept_others}
use Rattle.c2_spec.specs.Cover.{is_excluded}
use Rattle.c2_cover.proofs.counts.covered_count.Goals as goal

-- no range of the cover ends after the file, so its end has room in 64 bits
pub overflow_add-at : goal.overflow_add-at
overflow_add-at c =
    let copy = c.deref-range-items.ensures.value ∙ ap (λ (v : Covered). v.ranges) c.cover.view_is in
    let more =
    counts_more _ _ _ _ _ _
    (next_of c.args.cover.now.ranges c.deref-range-items.result.now c.loop-range.range-index copy c.loop-range-test.true)
    c.loop-range.invariant in
    let size = ap (λ (v : Covered). v.size) c.cover.view_is in
    omega (arith, more.inside, size, c.cover.invariant.0)

-- with the positions between the last range and this one, those before this range's end are counted
pub loop-range-preserved : goal.loop-range-preserved
loop-range-preserved c =
    let copy = c.deref-range-items.ensures.value ∙ ap (λ (v : Covered). v.ranges) c.cover.view_is in
    counts_more _ _ _ _ _ _
    (next_of c.args.cover.now.ranges c.deref-range-items.result.now c.loop-range.range-index copy c.loop-range-test.true)
    c.loop-range.invariant

-- with the positions after the last range, all covered positions of the file are counted
pub returns : goal.returns
returns c =
    let copy = c.deref-range-items.ensures.value ∙ ap (λ (v : Covered). v.ranges) c.cover.view_is in
    let size = ap (λ (v : Covered). v.size) c.cover.view_is in
    let end : length c.args.cover.now.ranges ≤ c.loop-range.range-index =
    omega (arith, c.loop-range-test.false, ap length copy) in
    let kept = kept_others (is_excluded c.args.cover.now.ranges) c.args.cover.now.size in
    omega
    (arith, size, kept, counts_all c.args.cover.now.size c.args.cover.now.ranges c.loop-range.range-index c.loop-range.at c.loop-range.count end c.loop-range.invariant)
