use Rattle.std.proofs.Common.{◌∙◌, inl, inr, sym, arith}
use Rattle.std.proofs.Math.Seq.{drop-cons}
use Rattle.c2_cover.proofs.MergingSteps.{range, bad_all, bad_step, bad_here}
use Rattle.c2_cover.proofs.cover.check_ranges.Goals as goal
use Rattle.c2_cover.proofs.cover.check_ranges.Goals.{then-range-end-via-then-range-end, then-range-end-via-else-range-end+then-range-size, then-range-end-via-else-range-end+else-range-size+then-range-size-2}

-- the first bad range from the first one on, after position 0, is the first of all
pub loop-index-init : goal.loop-index-init
loop-index-init c = record { inside = omega arith; others = bad_all c.args.size c.args.ranges.now }

-- after a range that is right, the first bad one is among those that follow, after its end
pub loop-index-preserved : goal.loop-index-preserved
loop-index-preserved c = record {
  inside = omega arith;
  others =
      bad_step c.args.size c.loop-index.end c.loop-index.index c.args.ranges.now _
      (drop-cons c.args.ranges.now c.loop-index.index (range 0 0) c.loop-index-test.true) (omega arith)
      (omega arith)
      ∙ c.loop-index.invariant.others;
}

-- a range that begins before the last end or ends after the file is the first bad one
pub returns-then-range-end-clause-first : goal.returns-then-range-end-clause-first
returns-then-range-end-clause-first c =
    let first = drop-cons c.args.ranges.now c.loop-index.index (range 0 0) c.loop-index-test.true in
    sym c.loop-index.invariant.others ∙ bad_here c.args.size c.loop-index.end c.loop-index.index c.args.ranges.now _ first (elim c.then-range-end.branch [
      | then-range-end-via-then-range-end w ↦ inl w.if-range-end.true
      | then-range-end-via-else-range-end+then-range-size w ↦ inr (omega arith)
      | then-range-end-via-else-range-end+else-range-size+then-range-size-2 w ↦ inr (omega arith)
    ])
