use Rattle.c2_cmd_building.proofs.TheLaws.{each_building_outcome_outcome, each_building_outcome_questions}
use Rattle.c2_cmd_building.proofs.laws.each_building_outcome.Goals as goal

pub returns-clause-outcome : goal.returns-clause-outcome
returns-clause-outcome c = each_building_outcome_outcome

pub returns-clause-questions : goal.returns-clause-questions
returns-clause-questions c = each_building_outcome_questions
