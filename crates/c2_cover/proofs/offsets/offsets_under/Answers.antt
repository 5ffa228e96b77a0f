use Rattle.std.proofs.Common.{get_or}
use Rattle.std.proofs.lemmas.List.{take_more}
use Rattle.c2_bmff_rows.specs.declared.row.RootBox.{RootBox}
use Rattle.c2_cover.proofs.TellingLemmas.{next_row, no_row, tells_none, tells_over, tells_word}
use Rattle.c2_cover.proofs.offsets.offsets_under.Goals as goal
use Rattle.c2_cover.proofs.offsets.offsets_under.Goals.{then-row-low+then-skipped-row+in_ok-push, then-row-low+else-skipped-row, else-row-low}

-- with the box offset of this box, where something of it is left, the box offsets of one box more are made
pub loop-row-preserved : goal.loop-row-preserved
loop-row-preserved c =
    let size = c.args.cover.now.size in
    let ranges = c.args.cover.now.ranges in
    let rows = c.args.rows.now in
    let n = c.loop-row.row-index in
    let row : RootBox = get_or rows n no_row in
    let next = next_row rows n c.loop-row-test.true in
    let more = take_more rows n no_row c.loop-row-test.true in
    elim c.if-row-low.branch [
      | then-row-low+then-skipped-row+in_ok-push w ↦
          rw w.offsets-is (rw w.ranges_left-is (rw w.low-is (rw w.in_ok-push.ensures.items
          (tells_word size ranges rows n c.loop-row.ranges_left.now c.loop-row.low c.loop-row.offsets.items row w.from_end_after-ranges_left.result.now w.skip-skipped.result c.loop-row.invariant next more w.if-row-low.true
          (record { ends = w.from_end_after-ranges_left.ensures; skips = w.skip-skipped.ensures }) w.if-skipped-row.true (c.requires n no_row c.loop-row-test.true)))))
      | then-row-low+else-skipped-row w ↦
          rw w.offsets-is (rw w.ranges_left-is (rw w.low-is (tells_none size ranges rows n c.loop-row.ranges_left.now c.loop-row.low c.loop-row.offsets.items row w.from_end_after-ranges_left.result.now w.skip-skipped.result c.loop-row.invariant next more w.if-row-low.true
          (record { ends = w.from_end_after-ranges_left.ensures; skips = w.skip-skipped.ensures }) w.if-skipped-row.false)))
      | else-row-low w ↦ rw w.offsets-is (rw w.ranges_left-is (rw w.low-is (tells_over size ranges rows n c.loop-row.ranges_left.now c.loop-row.low c.loop-row.offsets.items row c.loop-row.invariant next w.if-row-low.false)))
    ]
