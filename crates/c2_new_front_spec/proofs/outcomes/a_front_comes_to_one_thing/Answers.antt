use Rattle.c2_new_front_spec.proofs.TheLaws.{a_front_comes_to_one_thing_made, a_front_comes_to_one_thing_plan}
use Rattle.c2_new_front_spec.proofs.outcomes.a_front_comes_to_one_thing.Goals as goal

pub returns-clause-plan : goal.returns-clause-plan
returns-clause-plan c = a_front_comes_to_one_thing_plan

pub returns-clause-made : goal.returns-clause-made
returns-clause-made c = a_front_comes_to_one_thing_made
