use Rattle.c2_new_front_spec.proofs.TheLaws.{each_front_comes_to_something_made, each_front_comes_to_something_plan}
use Rattle.c2_new_front_spec.proofs.outcomes.each_front_comes_to_something.Goals as goal

pub returns-clause-plan : goal.returns-clause-plan
returns-clause-plan c = each_front_comes_to_something_plan

pub returns-clause-made : goal.returns-clause-made
returns-clause-made c = each_front_comes_to_something_made
