use Rattle.std.proofs.Common.{arith, ◌<◌, length, [], ◌∷◌, ◌++◌, sym, ◌∙◌}
use Rattle.c2_judge.proofs.Lines.{behind_shorter}
use Rattle.c2_judge.proofs.RowSteps.{bad_line, progress_more, on_success}
use Rattle.c2_judge.proofs.file.read_rows.Goals as goal

pub returns-in_default : goal.returns-in_default
returns-in_default c =
    let read = c.lines.invariant.read in
    bad_line read.0 _ _ _ _ _ _ read.1 (grind arith) c.split_line.ensures c.in_default.ensures

pub lines-preserved : goal.lines-preserved
lines-preserved c =
    let read = c.lines.invariant.read in
    let some : 0 < length c.lines.rest.now = grind arith in
    let shorter = behind_shorter _ _ _ c.split_line.ensures some in
    let row = c.in-Some.ensures in
    let added = on_success c.add_row.result (sym c.is_err.ensures.value ∙ c.if-is_err.false) c.add_row.ensures in
    record {
      room = omega arith;
      read =
          (read.0 ++ c.in-Some.row ∷ [], progress_more _ _ _ _ _ _ _ _ _ read.1 some c.split_line.ensures row.0 row.1 added);
    }
