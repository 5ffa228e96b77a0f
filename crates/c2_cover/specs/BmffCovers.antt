-- What a BMFF hash covers of a file.
use Rattle.std.specs.Prelude.{◌≡◌, ℕ, List, length}
use Rattle.c2_spec.specs.Bmff.Boxes.{Box, HasRoots}
use Rattle.c2_spec.specs.Bmff.Cover.{IsBmffCover}
use Rattle.c2_spec.specs.Bmff.Hash.{Exclusion}
use Rattle.c2_bmff_rows.specs.Rows.{rows_of}
use Rattle.c2_bmff_rows.specs.declared.row.RootBox.{RootBox}
use Rattle.c2_cover.specs.Covers.{Covered, excluded_of, text_of}

-- where these rows are those of the root boxes of the file, the cover is what the exclusions leave of it
abbrev pub IsBmffCoverOf : List ℕ → List RootBox → List Exclusion → Covered → Type 0
IsBmffCoverOf file rows exclusions c =
    (boxes : List Box) → HasRoots file boxes → rows ≡ rows_of boxes
    → IsBmffCover boxes (length file) exclusions (excluded_of c) (text_of c file)
