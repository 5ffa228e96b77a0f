use Rattle.c2_cmd_reading.proofs.TheLaws.{each_reading_outcome_outcome, each_reading_outcome_questions}
use Rattle.c2_cmd_reading.proofs.laws.each_reading_outcome.Goals as goal

pub returns-clause-outcome : goal.returns-clause-outcome
returns-clause-outcome c = each_reading_outcome_outcome

pub returns-clause-questions : goal.returns-clause-questions
returns-clause-questions c = each_reading_outcome_questions
