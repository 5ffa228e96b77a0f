use Rattle.c2_build_collect.proofs.TheLaws.{a_collected_build_asks_one_list_embedding, a_collected_build_asks_one_list_plan}
use Rattle.c2_build_collect.proofs.asking.a_collected_build_asks_one_list.Goals as goal

pub returns-clause-plan : goal.returns-clause-plan
returns-clause-plan c = a_collected_build_asks_one_list_plan

pub returns-clause-embedding : goal.returns-clause-embedding
returns-clause-embedding c = a_collected_build_asks_one_list_embedding
