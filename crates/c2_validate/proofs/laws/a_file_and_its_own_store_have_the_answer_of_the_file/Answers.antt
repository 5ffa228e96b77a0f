use Rattle.c2_validate.proofs.TheLaws.{a_file_and_its_own_store_have_the_answer_of_the_file}
use Rattle.c2_validate.proofs.laws.a_file_and_its_own_store_have_the_answer_of_the_file.Goals as goal

pub returns : goal.returns
returns c = a_file_and_its_own_store_have_the_answer_of_the_file
