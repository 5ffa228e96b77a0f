use Rattle.std.proofs.Common.{◌∙◌, ap}
use Rattle.std.proofs.Math.Seq.{drop-cons}
use Rattle.std.proofs.lemmas.List.{take_more, take_all}
use Rattle.c2_spec.specs.Cover.{is_excluded}
use Rattle.c2_cover.proofs.MergingSteps.{range, merges_grown, merges_next, open_merged, open_same}
use Rattle.c2_cover.proofs.cover.merged.Goals as goal
use Rattle.c2_cover.proofs.cover.merged.Goals.{then-range-end, else-range-end+in_ok-close}

-- with the next range in the open one or after it, the ranges still exclude the same positions
pub loop-range-preserved : goal.loop-range-preserved
loop-range-preserved c =
    let first = drop-cons c.args.ranges.now c.loop-range.range-index (range 0 0) c.loop-range-test.true in
    let last = take_more c.args.ranges.now c.loop-range.range-index (range 0 0) c.loop-range-test.true in
    elim c.if-range-end.branch [
      | then-range-end w ↦ rw w.done-is (rw w.held-is (rw w.max.ensures (merges_grown c.args.size c.args.ranges.now c.loop-range.range-index c.loop-range.done.items c.loop-range.held _ c.loop-range.invariant first last w.if-range-end.true)))
      | else-range-end+in_ok-close w ↦ rw w.done-is (rw w.held-is (rw w.in_ok-close.ensures (merges_next c.args.size c.args.ranges.now c.loop-range.range-index c.loop-range.done.items c.loop-range.held _ c.loop-range.invariant first last w.if-range-end.false)))
    ]

-- with the last open range, the ranges rise in the file, apart from each other, and none is empty
pub returns-clause-merged : goal.returns-clause-merged
returns-clause-merged c =
    rw c.in_ok-close-2.ensures
    (open_merged c.args.size c.loop-range.done.items c.loop-range.held c.loop-range.invariant.merged c.loop-range.invariant.below c.loop-range.invariant.inside)

-- with the last open range, they exclude a position just when the given ranges do
pub returns-clause-same : goal.returns-clause-same
returns-clause-same c i =
    ap (λ rs. is_excluded rs i) c.in_ok-close-2.ensures ∙ open_same c.loop-range.done.items c.loop-range.held i
    ∙ c.loop-range.invariant.same i
    ∙ ap (λ rs. is_excluded rs i) (take_all c.loop-range.range-index c.args.ranges.now c.loop-range-test.false)
