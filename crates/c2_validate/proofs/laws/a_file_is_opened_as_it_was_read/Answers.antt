use Rattle.c2_validate.proofs.TheLaws.{a_file_is_opened_as_it_was_read_absent, a_file_is_opened_as_it_was_read_read, a_file_is_opened_as_it_was_read_refused}
use Rattle.c2_validate.proofs.laws.a_file_is_opened_as_it_was_read.Goals as goal

pub returns-clause-refused : goal.returns-clause-refused
returns-clause-refused c = a_file_is_opened_as_it_was_read_refused

pub returns-clause-absent : goal.returns-clause-absent
returns-clause-absent c = a_file_is_opened_as_it_was_read_absent

pub returns-clause-read : goal.returns-clause-read
returns-clause-read c = a_file_is_opened_as_it_was_read_read
