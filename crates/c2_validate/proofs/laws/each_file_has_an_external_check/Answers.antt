use Rattle.c2_validate.proofs.TheLaws.{each_file_has_an_external_check_answer, each_file_has_an_external_check_asks}
use Rattle.c2_validate.proofs.laws.each_file_has_an_external_check.Goals as goal

pub returns-clause-answer : goal.returns-clause-answer
returns-clause-answer c = each_file_has_an_external_check_answer

pub returns-clause-asks : goal.returns-clause-asks
returns-clause-asks c = each_file_has_an_external_check_asks
