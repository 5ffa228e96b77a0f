-- The rows of the boxes inside another, and for private clauses how far a walk over them came.
use Rattle.std.specs.Prelude.{◌≡◌, ℕ, ◌+◌, ◌-◌, ◌≤◌, false, List, ◌++◌, length, take, drop, map, Option, Some, None, option_map}
use Rattle.std.specs.List.{sum_by}
use Rattle.c2_spec.specs.Bmff.Boxes.{Box}
use Rattle.c2_spec.specs.Bmff.Paths.{FillsPayload, placed_from}
use Rattle.c2_bmff_boxes.specs.Heads.{IsHead}
use Rattle.c2_bmff_rows.specs.Rows.{row_of}
use Rattle.c2_bmff_boxes.specs.declared.header.BoxHead.{BoxHead}
use Rattle.c2_bmff_rows.specs.declared.row.RootBox.{RootBox}
use Rattle.c2_bmff_rows.specs.Children.{child_rows, is_child}

-- the bytes of a file from one place to another
abbrev pub part_between : List ℕ → ℕ → ℕ → List ℕ
part_between file start end = take (end - start) (drop start file)

-- the rows of the boxes that fill these bytes; None where no list of boxes that say their sizes does
abbrev pub rows_between : List ℕ → ℕ → ℕ → Option (List RootBox)
rows_between file start end = child_rows (end - start) start (part_between file start end)

-- These are the rows of the list of boxes whose concatenation is these bytes, which begin at this place; None where there is no such list.
abbrev pub IsListOf : List ℕ → ℕ → Option (List RootBox) → Type 0
IsListOf part start (Some rows) = (boxes : List Box) × FillsPayload part boxes × (rows ≡ map row_of (placed_from start boxes))
IsListOf part start None = (boxes : List Box) → FillsPayload part boxes → ⊥

-- ---- for private clauses

-- How far the walk over them came: after `done` bytes there are these rows.
pub record ListWalk (file : List ℕ) (start end done : ℕ) (rows : List RootBox) : Type 0 where
  pub most : ℕ
  pub enough : length (drop done (part_between file start end)) ≤ most
  pub are : rows_between file start end
      ≡ option_map (λ (more : List RootBox). rows ++ more)
      (child_rows most (start + done) (drop done (part_between file start end)))

-- what is told of the box at the front of these bytes, where one stands there that says its size
abbrev pub IsChildHead : List ℕ → Option BoxHead → Type 0
IsChildHead rest None = is_child rest ≡ false
IsChildHead rest (Some h) = IsHead 0 rest h × (h.to_end ≡ false)

-- the box of this header ends within `left` bytes
abbrev pub IsHeadWithin : ℕ → BoxHead → Type 0
IsHeadWithin left h = (8 ≤ h.header) × (h.length ≤ left) × (h.header ≤ h.length)

-- how many bytes these boxes have together
abbrev pub rows_len : List RootBox → ℕ
rows_len rows = sum_by (λ (r : RootBox). r.length) rows
