use Rattle.c2_validate.proofs.TheLaws.{a_store_answers_for_its_file_answer, a_store_answers_for_its_file_asks}
use Rattle.c2_validate.proofs.laws.a_store_answers_for_its_file.Goals as goal

pub returns-clause-answer : goal.returns-clause-answer
returns-clause-answer c = a_store_answers_for_its_file_answer

pub returns-clause-asks : goal.returns-clause-asks
returns-clause-asks c = a_store_answers_for_its_file_asks
