use Rattle.std.proofs.Common.{◌∙◌, ◌<◌, length, false, [], sym, arith}
use Rattle.c2_bmff_rows.specs.declared.row.RootBox.{RootBox}
use Rattle.c2_bmff_boxes.proofs.PlaceLemmas.{behind_last, room_last}
use Rattle.c2_bmff_boxes.proofs.placing.place_behind.Goals as goal

-- a row of nothing, for indices after the last root box
abbrev no_row : RootBox
no_row = record { start = 0; length = 0; header = 0; kind = []; to_end = false }

-- the last row has room before it
pub place_at-requires-clause-before : goal.place_at-requires-clause-before
place_at-requires-clause-before c =
    let some : 0 < length c.args.rows.now =
    grind (arith, c.if-is_empty.ensures, c.if-is_empty.false, c.is_empty.ensures) in
    (room_last c.args.out c.args.rows.now no_row some c.requires).0

-- and ends in a file
pub place_at-requires-clause-fits : goal.place_at-requires-clause-fits
place_at-requires-clause-fits c =
    let some : 0 < length c.args.rows.now =
    grind (arith, c.if-is_empty.ensures, c.if-is_empty.false, c.is_empty.ensures) in
    (room_last c.args.out c.args.rows.now no_row some c.requires).1

-- the place is that at the last row
pub returns : goal.returns
returns c =
    let some : 0 < length c.args.rows.now =
    grind (arith, c.if-is_empty.ensures, c.if-is_empty.false, c.is_empty.ensures) in
    c.place_at.ensures ∙ sym (behind_last c.args.out c.args.rows.now no_row some)
