use Rattle.c2_validate.proofs.TheLaws.{a_file_answers_by_what_it_is_opened_as_answer, a_file_answers_by_what_it_is_opened_as_asks}
use Rattle.c2_validate.proofs.laws.a_file_answers_by_what_it_is_opened_as.Goals as goal

pub returns-clause-answer : goal.returns-clause-answer
returns-clause-answer c = a_file_answers_by_what_it_is_opened_as_answer

pub returns-clause-asks : goal.returns-clause-asks
returns-clause-asks c = a_file_answers_by_what_it_is_opened_as_asks
