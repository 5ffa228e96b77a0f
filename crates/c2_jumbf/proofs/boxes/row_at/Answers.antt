use Rattle.std.proofs.Common.{arith, ◌∙◌}
use Rattle.c2_jumbf.proofs.Records.{rows_count, row_here, legal_here}
use Rattle.c2_jumbf.proofs.boxes.row_at.Goals as goal

pub index-requires : goal.index-requires
index-requires c =
    omega
    (arith, rows_count c.tree.inside.bytes.now c.tree.inside.rows.items c.tree.inside.parsed c.args.tree.now c.tree.view_is, c.tree.inside.rows.ok.0)

pub returns : goal.returns
returns c = record {
  row =
      c.index.ensures
      ∙ row_here c.tree.inside.bytes.now c.tree.inside.rows.items c.tree.inside.parsed c.args.tree.now c.args.i _
      c.tree.view_is c.requires;
  legal =
      legal_here c.tree.inside.bytes.now c.tree.inside.rows.items c.tree.inside.parsed c.args.tree.now c.tree.view_is;
  few =
      omega
      (arith, rows_count c.tree.inside.bytes.now c.tree.inside.rows.items c.tree.inside.parsed c.args.tree.now c.tree.view_is, c.tree.inside.rows.ok.0);
}
