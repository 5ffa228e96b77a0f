-- A place for a new store, as it is found in a file: the segments of a JPEG file aren't kept, the root boxes of a BMFF file are, as rows.
use Rattle.std.specs.Prelude.{◌≡◌, ℕ, ◌≤◌}
use Rattle.c2_spec.specs.Jpeg.Writing as jpeg
use Rattle.c2_bmff_rows.specs.Rows.{rows_of}
use Rattle.c2_bmff_boxes.specs.Roots.{FillSource}
use Rattle.c2_new_file_spec.specs.Places.{Place, in_boxes, in_segments}
use Rattle.c2_build_refusals.specs.declared.types.InsertPoint.{InsertPoint}

-- this is a place as it was found
abbrev pub IsInsertPoint : InsertPoint → Place → Type 0
IsInsertPoint (InsertPoint.Segments start number) (in_segments segments en) = (start ≡ jpeg.insert_place segments) × (number ≡ en)
IsInsertPoint (InsertPoint.Segments start number) (in_boxes boxes) = ⊥
IsInsertPoint (InsertPoint.Boxes roots) (in_segments segments en) = ⊥
IsInsertPoint (InsertPoint.Boxes roots) (in_boxes boxes) = roots ≡ rows_of boxes

-- a place lies in a file of so many bytes
abbrev pub IsInsertPointIn : ℕ → InsertPoint → Type 0
IsInsertPointIn len (InsertPoint.Segments start number) = start ≤ len
IsInsertPointIn len (InsertPoint.Boxes roots) = FillSource len 0 roots
