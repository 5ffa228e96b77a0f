-- What is left of a file.
use Rattle.std.proofs.Common.{◌≡◌, ℕ, List, length}
use Rattle.c2_bmff_insert_spec.proofs.TheLaws.{a_put_store_is_not_covered_text}
use Rattle.c2_bmff_rows.specs.Rows.{rows_of}
use Rattle.c2_bmff_rows.specs.declared.row.RootBox.{RootBox}
use Rattle.c2_cover.specs.BmffCovers.{IsBmffCoverOf}
use Rattle.c2_cover.specs.Covers.{Covered, excluded_of, text_of}
use Rattle.c2_spec.specs.Bmff.Boxes.{Box, HasRoots}
use Rattle.c2_spec.specs.Bmff.Writing.{built_exclusions, built_text}

-- what a cover by the exclusions of a new hash leaves of a file is told by its root boxes
pub new_bmff_text : (file : List ℕ) (rows : List RootBox) (c : Covered) (boxes : List Box)
    → IsBmffCoverOf file rows built_exclusions c → HasRoots file boxes → rows ≡ rows_of boxes
    → text_of c file ≡ built_text boxes
new_bmff_text file rows c boxes is has same =
    a_put_store_is_not_covered_text file boxes (length file) (excluded_of c) (text_of c file) has (is boxes has same)
