use Rattle.c2_build_plain.proofs.TheLaws.{a_build_asks_one_list_embedding, a_build_asks_one_list_plan}
use Rattle.c2_build_plain.proofs.asking.a_build_asks_one_list.Goals as goal

pub returns-clause-plan : goal.returns-clause-plan
returns-clause-plan c = a_build_asks_one_list_plan

pub returns-clause-embedding : goal.returns-clause-embedding
returns-clause-embedding c = a_build_asks_one_list_embedding
