use Rattle.c2_build_plain.proofs.TheLaws.{each_build_comes_to_something_embedding, each_build_comes_to_something_plan}
use Rattle.c2_build_plain.proofs.laws.each_build_comes_to_something.Goals as goal

pub returns-clause-plan : goal.returns-clause-plan
returns-clause-plan c = each_build_comes_to_something_plan

pub returns-clause-embedding : goal.returns-clause-embedding
returns-clause-embedding c = each_build_comes_to_something_embedding
