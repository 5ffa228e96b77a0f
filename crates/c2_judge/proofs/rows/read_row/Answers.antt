use Rattle.std.proofs.Common.{arith, sym}
use Rattle.c2_judge.proofs.Lines.{short_line, no_row_digits, no_row_word}
use Rattle.c2_judge.proofs.rows.read_row.Goals as goal

pub returns-then-line-lt-ID_DIGITS : goal.returns-then-line-lt-ID_DIGITS
returns-then-line-lt-ID_DIGITS c = short_line c.args.line.now (omega arith)

pub returns-in_err-id : goal.returns-in_err-id
returns-in_err-id c =
    rw c.from_residual.ensures (no_row_digits c.args.line.now _ c.split_at.ensures.front c.in_err-id.ensures)

pub returns-in_err-verdict : goal.returns-in_err-verdict
returns-in_err-verdict c =
    rw c.from_residual-in_err-verdict.ensures
    (no_row_word c.args.line.now _ c.split_at.ensures.back (sym c.in_err-verdict.ensures))
