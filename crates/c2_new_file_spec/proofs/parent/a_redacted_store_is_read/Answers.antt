use Rattle.c2_new_file_spec.proofs.ParentLaws.{a_redacted_store_is_read_all, a_redacted_store_is_read_less, a_redacted_store_is_read_stays}
use Rattle.c2_new_file_spec.proofs.parent.a_redacted_store_is_read.Goals as goal

pub returns-clause-less : goal.returns-clause-less
returns-clause-less c = a_redacted_store_is_read_less

pub returns-clause-stays : goal.returns-clause-stays
returns-clause-stays c = a_redacted_store_is_read_stays

pub returns-clause-all : goal.returns-clause-all
returns-clause-all c = a_redacted_store_is_read_all
