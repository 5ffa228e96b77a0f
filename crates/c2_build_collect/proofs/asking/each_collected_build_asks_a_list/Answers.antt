use Rattle.c2_build_collect.proofs.Questioned.{some_embed_asks, some_plan_asks}
use Rattle.c2_build_collect.proofs.asking.each_collected_build_asks_a_list.Goals as goal

-- each stage comes to something, and a check asks a list: so for a plan
pub returns-clause-plan : goal.returns-clause-plan
returns-clause-plan c = some_plan_asks

-- and for a new file
pub returns-clause-embedding : goal.returns-clause-embedding
returns-clause-embedding c = some_embed_asks
