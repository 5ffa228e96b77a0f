use Rattle.c2_collect_spec.proofs.TheLaws.{unrefused_inputs_are_collected_made, unrefused_inputs_are_collected_plan}
use Rattle.c2_collect_spec.proofs.outcomes.unrefused_inputs_are_collected.Goals as goal

pub returns-clause-plan : goal.returns-clause-plan
returns-clause-plan c = unrefused_inputs_are_collected_plan

pub returns-clause-made : goal.returns-clause-made
returns-clause-made c = unrefused_inputs_are_collected_made
