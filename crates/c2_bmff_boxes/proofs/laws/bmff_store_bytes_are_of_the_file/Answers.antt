use Rattle.c2_bmff_boxes.proofs.TheLaws.{bmff_store_bytes_are_of_the_file}
use Rattle.c2_bmff_boxes.proofs.laws.bmff_store_bytes_are_of_the_file.Goals as goal

pub returns : goal.returns
returns c = bmff_store_bytes_are_of_the_file
