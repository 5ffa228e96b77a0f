use Rattle.c2_validate.proofs.TheLaws.{one_external_check_answer, one_external_check_asks}
use Rattle.c2_validate.proofs.laws.one_external_check.Goals as goal

pub returns-clause-answer : goal.returns-clause-answer
returns-clause-answer c = one_external_check_answer

pub returns-clause-asks : goal.returns-clause-asks
returns-clause-asks c = one_external_check_asks
