use Rattle.c2_new_file_spec.proofs.ParentLaws.{the_first_redaction_refused_is_the_least}
use Rattle.c2_new_file_spec.proofs.parent.the_first_redaction_refused_is_the_least.Goals as goal

pub returns : goal.returns
returns c = the_first_redaction_refused_is_the_least
