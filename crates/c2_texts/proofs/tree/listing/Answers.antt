use Rattle.std.proofs.Common.{◌<◌, arith, rules, string_bytes}
use Rattle.c2_spec.specs.Jumbf.Boxes.{tree_count}
use Rattle.c2_texts.proofs.BoxLines.{lines_more, lines_whole}
use Rattle.c2_texts.proofs.tree.listing.Goals as goal

-- with one line more, the text has the lines of one box more
pub boxes-preserved : goal.boxes-preserved
boxes-preserved c =
    let before = c.boxes.invariant in
    let below : c.boxes.i < tree_count c.args.tree.now = omega (arith, before.end, c.boxes-test.true) in
    record {
      end = before.end;
      lines = lines_more c.args.tree.now c.boxes.i (string_bytes c.boxes.text) _ below before.lines (search rules);
    }

-- at the end it has the lines of all boxes
pub returns : goal.returns
returns c =
    lines_whole c.args.tree.now c.boxes.i _
    (omega (arith, c.boxes.invariant.end, c.boxes-test.false, c.boxes.auto.i-end)) c.boxes.invariant.lines
