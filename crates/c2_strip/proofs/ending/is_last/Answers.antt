use Rattle.std.proofs.Common.{◌∙◌, ◌<◌, length, false, [], sym, arith}
use Rattle.c2_bmff_rows.specs.declared.row.RootBox.{RootBox}
use Rattle.c2_strip.proofs.Endings.{last_row}
use Rattle.c2_strip.proofs.ending.is_last.Goals as goal

-- a row of nothing, for indices behind the last
abbrev no_row : RootBox
no_row = record { start = 0; length = 0; header = 0; kind = []; to_end = false }

-- it is asked of the last row
pub returns : goal.returns
returns c =
    let some : 0 < length c.args.rows.now =
    grind (arith, c.if-is_empty.ensures, c.if-is_empty.false, c.is_empty.ensures) in
    c.ends_with.ensures ∙ sym (last_row c.args.range c.args.rows.now no_row some)
