use Rattle.c2_bmff_rows.proofs.TheLaws.{rows_on_a_path_are_of_its_boxes_boxes, rows_on_a_path_are_of_its_boxes_rows}
use Rattle.c2_bmff_rows.proofs.laws.rows_on_a_path_are_of_its_boxes.Goals as goal

pub returns-clause-boxes : goal.returns-clause-boxes
returns-clause-boxes c = rows_on_a_path_are_of_its_boxes_boxes

pub returns-clause-rows : goal.returns-clause-rows
returns-clause-rows c = rows_on_a_path_are_of_its_boxes_rows
