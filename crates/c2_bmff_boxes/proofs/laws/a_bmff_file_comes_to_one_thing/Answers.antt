use Rattle.c2_bmff_boxes.proofs.laws.a_bmff_file_comes_to_one_thing.Goals as goal
use Rattle.c2_spec.proofs.BmffOneOutcome.{one_bmff_located}

pub returns : goal.returns
returns c = one_bmff_located
