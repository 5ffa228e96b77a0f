use Rattle.c2_cmd_reading.proofs.TheLaws.{one_reading_outcome_outcome, one_reading_outcome_questions}
use Rattle.c2_cmd_reading.proofs.laws.one_reading_outcome.Goals as goal

pub returns-clause-outcome : goal.returns-clause-outcome
returns-clause-outcome c = one_reading_outcome_outcome

pub returns-clause-questions : goal.returns-clause-questions
returns-clause-questions c = one_reading_outcome_questions
