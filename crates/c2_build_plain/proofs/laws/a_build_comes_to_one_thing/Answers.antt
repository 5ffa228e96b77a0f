use Rattle.c2_build_plain.proofs.TheLaws.{a_build_comes_to_one_thing_embedding, a_build_comes_to_one_thing_plan}
use Rattle.c2_build_plain.proofs.laws.a_build_comes_to_one_thing.Goals as goal

pub returns-clause-plan : goal.returns-clause-plan
returns-clause-plan c = a_build_comes_to_one_thing_plan

pub returns-clause-embedding : goal.returns-clause-embedding
returns-clause-embedding c = a_build_comes_to_one_thing_embedding
