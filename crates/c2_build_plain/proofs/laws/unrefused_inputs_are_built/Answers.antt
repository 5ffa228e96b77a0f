use Rattle.c2_build_plain.proofs.TheLaws.{unrefused_inputs_are_built_embedding, unrefused_inputs_are_built_plan}
use Rattle.c2_build_plain.proofs.laws.unrefused_inputs_are_built.Goals as goal

pub returns-clause-plan : goal.returns-clause-plan
returns-clause-plan c = unrefused_inputs_are_built_plan

pub returns-clause-embedding : goal.returns-clause-embedding
returns-clause-embedding c = unrefused_inputs_are_built_embedding
