use Rattle.c2_collect_spec.proofs.TheLaws.{each_collected_build_asks_a_list_made, each_collected_build_asks_a_list_plan}
use Rattle.c2_collect_spec.proofs.outcomes.each_collected_build_asks_a_list.Goals as goal

pub returns-clause-plan : goal.returns-clause-plan
returns-clause-plan c = each_collected_build_asks_a_list_plan

pub returns-clause-made : goal.returns-clause-made
returns-clause-made c = each_collected_build_asks_a_list_made
