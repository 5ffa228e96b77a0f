use Rattle.std.proofs.Common.{◌≡◌, ◌<◌, ◌+◌, ◌-◌, length, false, [], List, arith, sym, subst}
use Rattle.c2_bmff_rows.specs.declared.row.RootBox.{RootBox}
use Rattle.c2_bmff_boxes.specs.Roots.{FillSource}
use Rattle.c2_bmff_boxes.proofs.LastRows.{last_ends}
use Rattle.c2_bmff_boxes.proofs.row_lists.roots_len.Goals as goal

-- a row of nothing, for indices after the last root box
abbrev no_row : RootBox
no_row = record { start = 0; length = 0; header = 0; kind = []; to_end = false }

-- the last row ends in a file
pub overflow_add-result : goal.overflow_add-result
overflow_add-result c =
    let rows = c.as_slice-rows.result.now in
    let some : 0 < length rows = grind (arith, c.if-is_empty.ensures, c.if-is_empty.false, c.is_empty.ensures) in
    let last : length rows - 1 + 1 ≡ length rows = omega (arith, some) in
    let f = c.as_slice-rows.ensures.fill in
    let ends = last_ends f.size f.low (length rows - 1) rows no_row last f.fill in
    omega (arith, ends, f.small)

-- that which they fill
pub returns : goal.returns
returns c = λ size fill.
    let rows = c.as_slice-rows.result.now in
    let some : 0 < length rows = grind (arith, c.if-is_empty.ensures, c.if-is_empty.false, c.is_empty.ensures) in
    let last : length rows - 1 + 1 ≡ length rows = omega (arith, some) in
    last_ends size 0 (length rows - 1) rows no_row last
    (subst (λ (rs : List RootBox). FillSource size 0 rs) (sym c.as_slice-rows.ensures.boxes) fill)
