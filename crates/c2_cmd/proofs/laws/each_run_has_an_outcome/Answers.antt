use Rattle.c2_cmd.proofs.TheLaws.{each_run_has_an_outcome_outcome, each_run_has_an_outcome_questions}
use Rattle.c2_cmd.proofs.laws.each_run_has_an_outcome.Goals as goal

pub returns-clause-outcome : goal.returns-clause-outcome
returns-clause-outcome c = each_run_has_an_outcome_outcome

pub returns-clause-questions : goal.returns-clause-questions
returns-clause-questions c = each_run_has_an_outcome_questions
