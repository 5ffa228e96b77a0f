use Rattle.c2_cmd_collect.proofs.TheLaws.{one_collect_outcome_outcome, one_collect_outcome_questions}
use Rattle.c2_cmd_collect.proofs.laws.one_collect_outcome.Goals as goal

pub returns-clause-outcome : goal.returns-clause-outcome
returns-clause-outcome c = one_collect_outcome_outcome

pub returns-clause-questions : goal.returns-clause-questions
returns-clause-questions c = one_collect_outcome_questions
