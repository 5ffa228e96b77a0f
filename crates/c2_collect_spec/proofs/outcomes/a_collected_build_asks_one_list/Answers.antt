use Rattle.c2_collect_spec.proofs.TheLaws.{a_collected_build_asks_one_list_made, a_collected_build_asks_one_list_plan}
use Rattle.c2_collect_spec.proofs.outcomes.a_collected_build_asks_one_list.Goals as goal

pub returns-clause-plan : goal.returns-clause-plan
returns-clause-plan c = a_collected_build_asks_one_list_plan

pub returns-clause-made : goal.returns-clause-made
returns-clause-made c = a_collected_build_asks_one_list_made
