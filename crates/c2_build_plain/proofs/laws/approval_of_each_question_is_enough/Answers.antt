use Rattle.c2_build_plain.proofs.TheLaws.{approval_of_each_question_is_enough}
use Rattle.c2_build_plain.proofs.laws.approval_of_each_question_is_enough.Goals as goal

pub returns : goal.returns
returns c = approval_of_each_question_is_enough
