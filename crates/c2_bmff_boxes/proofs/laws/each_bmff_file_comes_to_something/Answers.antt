use Rattle.c2_bmff_boxes.proofs.TheLaws.{each_bmff_file_comes_to_something}
use Rattle.c2_bmff_boxes.proofs.laws.each_bmff_file_comes_to_something.Goals as goal

pub returns : goal.returns
returns c = each_bmff_file_comes_to_something
