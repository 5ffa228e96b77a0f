use Rattle.c2_new_file_spec.proofs.ParentLaws.{redactions_that_pass_may_be_made_none, redactions_that_pass_may_be_made_pass}
use Rattle.c2_new_file_spec.proofs.parent.redactions_that_pass_may_be_made.Goals as goal

pub returns-clause-pass : goal.returns-clause-pass
returns-clause-pass c = redactions_that_pass_may_be_made_pass

pub returns-clause-none : goal.returns-clause-none
returns-clause-none c = redactions_that_pass_may_be_made_none
