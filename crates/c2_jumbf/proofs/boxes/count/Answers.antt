use Rattle.std.proofs.Common.{arith}
use Rattle.c2_jumbf.proofs.Records.{rows_count, legal_here}
use Rattle.c2_spec.proofs.JumbfBoxes.{some_box}
use Rattle.c2_jumbf.proofs.boxes.count.Goals as goal

pub returns-clause-count : goal.returns-clause-count
returns-clause-count c =
    omega
    (arith, c.len.ensures, rows_count c.tree.inside.bytes.now c.tree.inside.rows.items c.tree.inside.parsed c.args.tree.now c.tree.view_is, c.tree.inside.rows.ok.0)

pub returns-clause-legal : goal.returns-clause-legal
returns-clause-legal c =
    legal_here c.tree.inside.bytes.now c.tree.inside.rows.items c.tree.inside.parsed c.args.tree.now c.tree.view_is

pub returns-clause-some : goal.returns-clause-some
returns-clause-some c =
    omega
    (arith, c.len.ensures, rows_count c.tree.inside.bytes.now c.tree.inside.rows.items c.tree.inside.parsed c.args.tree.now c.tree.view_is, c.tree.inside.rows.ok.0, some_box c.args.tree.now)
