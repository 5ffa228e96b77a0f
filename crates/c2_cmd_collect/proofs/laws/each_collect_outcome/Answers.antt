use Rattle.c2_cmd_collect.proofs.TheLaws.{each_collect_outcome_outcome, each_collect_outcome_questions}
use Rattle.c2_cmd_collect.proofs.laws.each_collect_outcome.Goals as goal

-- files of bytes have checks, so they come to something, and that has an outcome
pub returns-clause-outcome : goal.returns-clause-outcome
returns-clause-outcome c = each_collect_outcome_outcome

-- and they ask a list of questions
pub returns-clause-questions : goal.returns-clause-questions
returns-clause-questions c = each_collect_outcome_questions
