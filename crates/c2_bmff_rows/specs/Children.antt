-- The rows of the boxes inside another.
use Rattle.std.specs.Prelude.{ℕ, zero, suc, ◌+◌, Bool, false, not, ◌&&◌, ◌==◌, is_some, List, [], ◌∷◌, length, drop, Option, Some, None, if◌then◌else◌}
use Rattle.c2_spec.specs.Bmff.Boxes.{box_fault, stated_size, stated_len, stated_kind, stated_header_len}
use Rattle.c2_spec.specs.Cbor.Fields.{joined}
use Rattle.c2_bmff_rows.specs.Rows.{payload_at}
use Rattle.c2_bmff_rows.specs.declared.row.RootBox.{RootBox}

-- a box that says its size stands at the front of these bytes
abbrev pub is_child : List ℕ → Bool
is_child rest = not (is_some (box_fault 0 rest)) && not (stated_size rest == 0)

-- the row of the box at the front of these bytes, which begin at this place
abbrev pub child_row : ℕ → List ℕ → RootBox
child_row at rest = record {
  start = at;
  length = stated_len rest;
  header = stated_header_len rest;
  kind = stated_kind rest;
  to_end = false;
}

-- the rows of the boxes that fill these bytes, which begin at this place, where so many boxes are enough; None where none fill them
abbrev pub child_rows : ℕ → ℕ → List ℕ → Option (List RootBox)
child_rows n at [] = Some []
child_rows zero at (x ∷ xs) = None
child_rows (suc n) at (x ∷ xs) =
    if is_child (x ∷ xs)
    then joined (Some (child_row at (x ∷ xs)))
    (child_rows n (at + stated_len (x ∷ xs)) (drop (stated_len (x ∷ xs)) (x ∷ xs)))
    else None

-- the rows of a list, and no rows where there is no list
abbrev pub or_none : Option (List RootBox) → List RootBox
or_none None = []
or_none (Some rows) = rows

-- the rows of the children of the box of this row
abbrev pub kids : List ℕ → RootBox → List RootBox
kids file r = or_none (child_rows (length (payload_at file r)) (r.start + r.header) (payload_at file r))
