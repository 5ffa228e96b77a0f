use Rattle.std.proofs.Common.{◌+◌, ◌≤◌, ◌∙◌, ap, arith, length, sym}
use Rattle.std.specs.List.{range_with_len}
use Rattle.c2_spec.specs.Cover.{is_excluded, is_outside}
use Rattle.c2_cover.specs.Covers.{Covered}
use Rattle.c2_cover.proofs.PassingLemmas.{filter_twice}
use Rattle.c2_cover.proofs.CountLemmas.{next_of, next_inside, outside_more, outside_small, outside_all, outside_cut}
use Rattle.c2_cover.proofs.counts.outside_count.Goals as goal

-- each range of the cover ends in the file, so its end has room in 64 bits
pub outside_range-count-requires-clause-fits : goal.outside_range-count-requires-clause-fits
outside_range-count-requires-clause-fits c =
    let copy = c.deref-range-items.ensures.value ∙ ap (λ (v : Covered). v.ranges) c.cover.view_is in
    let size = ap (λ (v : Covered). v.size) c.cover.view_is in
    let next =
    next_inside c.args.cover.now.size 0 _ _ c.args.cover.now.ranges c.loop-range.range-index
    (next_of c.args.cover.now.ranges c.deref-range-items.result.now c.loop-range.range-index copy c.loop-range-test.true)
    c.loop-range.invariant.others in
    omega (arith, next.2, size, c.cover.invariant.0)

-- no more positions are excluded outside than the file has, so their count has room in 64 bits
pub overflow_add-count : goal.overflow_add-count
overflow_add-count c =
    let copy = c.deref-range-items.ensures.value ∙ ap (λ (v : Covered). v.ranges) c.cover.view_is in
    let size = ap (λ (v : Covered). v.size) c.cover.view_is in
    let more =
    outside_more _ _ _ _ _ _ _ _
    (next_of c.args.cover.now.ranges c.deref-range-items.result.now c.loop-range.range-index copy c.loop-range-test.true)
    c.outside_range-count.ensures c.loop-range.invariant in
    omega (arith, outside_small _ _ _ _ _ _ more, size, c.cover.invariant.0)

-- with those of this range, the outside positions of one range more are counted
pub loop-range-preserved : goal.loop-range-preserved
loop-range-preserved c =
    let copy = c.deref-range-items.ensures.value ∙ ap (λ (v : Covered). v.ranges) c.cover.view_is in
    outside_more _ _ _ _ _ _ _ _
    (next_of c.args.cover.now.ranges c.deref-range-items.result.now c.loop-range.range-index copy c.loop-range-test.true)
    c.outside_range-count.ensures c.loop-range.invariant

-- over all ranges, the count is that of the excluded positions outside, also where the end was cut
pub returns : goal.returns
returns c =
    let copy = c.deref-range-items.ensures.value ∙ ap (λ (v : Covered). v.ranges) c.cover.view_is in
    let end : length c.args.cover.now.ranges ≤ c.loop-range.range-index =
    omega (arith, c.loop-range-test.false, ap length copy) in
    outside_all _ _ _ _ _ _ end c.loop-range.invariant
    ∙ outside_cut c.args.cover.now.size c.args.start (c.args.start + c.args.length) _ c.args.cover.now.ranges
    (omega (arith, ap (λ (v : Covered). v.size) c.cover.view_is, c.cover.invariant.0))
    c.saturating_add-end.ensures
    ∙ ap length
    (sym (filter_twice (is_excluded c.args.cover.now.ranges) (is_outside c.args.start c.args.length) (range_with_len 0 c.args.cover.now.size)))
