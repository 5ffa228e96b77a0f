use Rattle.c2_read_manifests.proofs.RowLemmas.{rows_more}
use Rattle.c2_read_manifests.proofs.rows.fill_rows.Goals as goal

-- with the row that is made from the rows before, the rows are those of one manifest more
pub loop-n-preserved : goal.loop-n-preserved
loop-n-preserved c =
    rows_more c.args.all.now c.loop-n.n c.loop-n.rows.items c.as_slice.result.now c.push.new.self.items c.in_ok-row.row
    c.loop-n.invariant c.as_slice.ensures.value c.in_ok-row.ensures
    c.in_ok-push.ensures.items
