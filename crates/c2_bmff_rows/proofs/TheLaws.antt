-- The laws of this crate, for the proofs of the crates above it.
use Rattle.c2_lemmas.proofs.Bytes.{are_bytes}
use Rattle.c2_bmff_rows.proofs.PathRows.{from_member, path_rows, rows_path, to_member}
use Rattle.c2_bmff_rows.specs.Paths.{BoxesHaveRows, RowsHaveBoxes}

-- the rows on a path below boxes that stand in a file are those of the boxes on the path
pub rows_on_a_path_are_of_its_boxes_boxes : BoxesHaveRows
rows_on_a_path_are_of_its_boxes_boxes =
    λ file ps steps b bytes fits stand on. from_member _ _ (path_rows file (are_bytes file bytes) fits ps steps b on stand).row

-- the rows on a path below boxes that stand in a file are those of the boxes on the path
pub rows_on_a_path_are_of_its_boxes_rows : RowsHaveBoxes
rows_on_a_path_are_of_its_boxes_rows =
    λ file ps steps r bytes fits stand has. rows_path file (are_bytes file bytes) fits steps ps r stand (to_member _ r has)
