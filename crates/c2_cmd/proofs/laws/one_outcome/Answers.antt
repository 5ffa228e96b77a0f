use Rattle.c2_cmd.proofs.TheLaws.{one_outcome_outcome, one_outcome_questions}
use Rattle.c2_cmd.proofs.laws.one_outcome.Goals as goal

pub returns-clause-outcome : goal.returns-clause-outcome
returns-clause-outcome c = one_outcome_outcome

pub returns-clause-questions : goal.returns-clause-questions
returns-clause-questions c = one_outcome_questions
