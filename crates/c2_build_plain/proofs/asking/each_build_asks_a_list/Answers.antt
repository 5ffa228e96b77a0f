use Rattle.c2_build_plain.proofs.TheLaws.{each_build_asks_a_list_embedding, each_build_asks_a_list_plan}
use Rattle.c2_build_plain.proofs.asking.each_build_asks_a_list.Goals as goal

pub returns-clause-plan : goal.returns-clause-plan
returns-clause-plan c = each_build_asks_a_list_plan

pub returns-clause-embedding : goal.returns-clause-embedding
returns-clause-embedding c = each_build_asks_a_list_embedding
