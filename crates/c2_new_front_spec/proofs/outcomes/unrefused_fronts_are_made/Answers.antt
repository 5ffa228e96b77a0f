use Rattle.c2_new_front_spec.proofs.TheLaws.{unrefused_fronts_are_made_made, unrefused_fronts_are_made_plan}
use Rattle.c2_new_front_spec.proofs.outcomes.unrefused_fronts_are_made.Goals as goal

pub returns-clause-plan : goal.returns-clause-plan
returns-clause-plan c = unrefused_fronts_are_made_plan

pub returns-clause-made : goal.returns-clause-made
returns-clause-made c = unrefused_fronts_are_made_made
