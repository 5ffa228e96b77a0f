use Rattle.c2_collect_spec.proofs.TheLaws.{each_collected_build_comes_to_something_made, each_collected_build_comes_to_something_plan}
use Rattle.c2_collect_spec.proofs.outcomes.each_collected_build_comes_to_something.Goals as goal

pub returns-clause-plan : goal.returns-clause-plan
returns-clause-plan c = each_collected_build_comes_to_something_plan

pub returns-clause-made : goal.returns-clause-made
returns-clause-made c = each_collected_build_comes_to_something_made
