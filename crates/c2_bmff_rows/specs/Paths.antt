-- The boxes on a path, by their rows.
use Rattle.std.specs.Prelude.{◌≡◌, ℕ, ◌<◌, ◌^◌, List, [], ◌∷◌, length, map, filter, All, Contains, if◌then◌else◌}
use Rattle.std.specs.List.{flat_map, AllByRecursion}
use Rattle.std.specs.Str.{bytes_eq}
use Rattle.c2_spec.specs.Bmff.Paths.{OnPath, PathStep, PlacedBox, is_entered, nth_of}
use Rattle.c2_bmff_rows.specs.Children.{kids}
use Rattle.c2_bmff_rows.specs.Rows.{Stands, row_of}
use Rattle.c2_bmff_rows.specs.declared.row.RootBox.{RootBox}

-- the rows that a step matches among these siblings
abbrev pub row_matched : PathStep → List RootBox → List RootBox
row_matched step siblings =
    nth_of step.nth (filter (λ (r : RootBox). bytes_eq r.kind step.kind) siblings)

-- the rows on a path below these siblings
abbrev pub on_rows : List ℕ → List RootBox → List PathStep → List RootBox
on_rows file siblings [] = []
on_rows file siblings (step ∷ []) = row_matched step siblings
on_rows file siblings (step ∷ next ∷ steps) =
    if is_entered step.kind
    then flat_map (λ (p : RootBox). on_rows file (kids file p) (next ∷ steps)) (row_matched step siblings)
    else []

-- the rows on the rest of a path, where these are the rows that its steps up to this one match
abbrev pub go_on : List ℕ → PathStep → List PathStep → List RootBox → List RootBox
go_on file step [] found = found
go_on file step (next ∷ steps) found =
    if is_entered step.kind
    then flat_map (λ (p : RootBox). on_rows file (kids file p) (next ∷ steps)) found
    else []

-- ---- what the rows say

-- a row on a path, and its box
pub record HasBox (file : List ℕ) (ps : List PlacedBox) (steps : List PathStep) (r : RootBox) : Type 0 where
  pub box : PlacedBox
  pub on : OnPath ps steps box
  pub is : r ≡ row_of box
  pub stands : Stands file box

-- Each row on a path below boxes that stand in a file of bytes has its box, which is on the path and stands in the file.
abbrev pub RowsHaveBoxes : Type 0
RowsHaveBoxes = (file : List ℕ) (ps : List PlacedBox) (steps : List PathStep) (r : RootBox)
    → All (λ b. b < 2 ^ 8) file → length file < 2 ^ 62 → AllByRecursion (Stands file) ps
    → Contains (on_rows file (map row_of ps) steps) r → HasBox file ps steps r

-- Each box on a path below boxes that stand in a file of bytes has its row on the path.
abbrev pub BoxesHaveRows : Type 0
BoxesHaveRows = (file : List ℕ) (ps : List PlacedBox) (steps : List PathStep) (b : PlacedBox)
    → All (λ b. b < 2 ^ 8) file → length file < 2 ^ 62 → AllByRecursion (Stands file) ps
    → OnPath ps steps b → Contains (on_rows file (map row_of ps) steps) (row_of b)
