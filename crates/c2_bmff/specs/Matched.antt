-- The positions that exclusions exclude, as ranges.
use Rattle.std.specs.Prelude.{◌≡◌, ◌↔◌, ℕ, true, List}
use Rattle.c2_base.specs.declared.values.Range.{Range}
use Rattle.c2_spec.specs.Bmff.Boxes.{Box, HasRoots}
use Rattle.c2_spec.specs.Bmff.Hash.{Exclusion, IsExcluded, IsExcludedBy}
use Rattle.c2_spec.specs.Cover.{is_excluded}
use Rattle.c2_bmff_rows.specs.Rows.{rows_of}
use Rattle.c2_bmff_rows.specs.declared.row.RootBox.{RootBox}

-- where these rows are those of the root boxes of the file, the ranges hold exactly the positions that the exclusion excludes
abbrev pub AreExcluded : List ℕ → List RootBox → Exclusion → List Range → Type 0
AreExcluded file rows e ranges =
    (boxes : List Box) → HasRoots file boxes → rows ≡ rows_of boxes
    → (i : ℕ) → (is_excluded ranges i ≡ true) ↔ IsExcludedBy boxes e i

-- where these rows are those of the root boxes of the file, the ranges hold exactly the positions that some of the exclusions excludes
abbrev pub AreAllExcluded : List ℕ → List RootBox → List Exclusion → List Range → Type 0
AreAllExcluded file rows exclusions ranges =
    (boxes : List Box) → HasRoots file boxes → rows ≡ rows_of boxes
    → (i : ℕ) → (is_excluded ranges i ≡ true) ↔ IsExcluded boxes exclusions i
