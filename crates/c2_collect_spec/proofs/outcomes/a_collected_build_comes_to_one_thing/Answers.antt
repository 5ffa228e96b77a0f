use Rattle.c2_collect_spec.proofs.TheLaws.{a_collected_build_comes_to_one_thing_made, a_collected_build_comes_to_one_thing_plan}
use Rattle.c2_collect_spec.proofs.outcomes.a_collected_build_comes_to_one_thing.Goals as goal

pub returns-clause-plan : goal.returns-clause-plan
returns-clause-plan c = a_collected_build_comes_to_one_thing_plan

pub returns-clause-made : goal.returns-clause-made
returns-clause-made c = a_collected_build_comes_to_one_thing_made
