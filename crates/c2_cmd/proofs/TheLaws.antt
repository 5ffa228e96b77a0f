-- The laws of this crate, for the proofs of the crates above it.
use Rattle.c2_cmd.proofs.EachOutcome.{each_list, each_outcome}
use Rattle.c2_cmd.proofs.OneOutcome.{one_list, one_outcome}
use Rattle.c2_cmd.specs.Laws.{OneListOfQuestions, OneOutcome, SomeListOfQuestions, SomeOutcome}

-- words and inputs come to one outcome at most
pub one_outcome_outcome : OneOutcome
one_outcome_outcome = one_outcome

-- and ask one list of questions at most
pub one_outcome_questions : OneListOfQuestions
one_outcome_questions = one_list

-- words and inputs whose files are bytes come to an outcome
pub each_run_has_an_outcome_outcome : SomeOutcome
each_run_has_an_outcome_outcome = each_outcome

-- and ask a list of questions
pub each_run_has_an_outcome_questions : SomeListOfQuestions
each_run_has_an_outcome_questions = each_list
