use Rattle.c2_cmd_building.proofs.TheLaws.{one_building_outcome_outcome, one_building_outcome_questions}
use Rattle.c2_cmd_building.proofs.laws.one_building_outcome.Goals as goal

pub returns-clause-outcome : goal.returns-clause-outcome
returns-clause-outcome c = one_building_outcome_outcome

pub returns-clause-questions : goal.returns-clause-questions
returns-clause-questions c = one_building_outcome_questions
