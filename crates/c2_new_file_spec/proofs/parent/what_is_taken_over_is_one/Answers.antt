use Rattle.c2_new_file_spec.proofs.ParentLaws.{what_is_taken_over_is_one_content, what_is_taken_over_is_one_parent}
use Rattle.c2_new_file_spec.proofs.parent.what_is_taken_over_is_one.Goals as goal

pub returns-clause-parent : goal.returns-clause-parent
returns-clause-parent c = what_is_taken_over_is_one_parent

pub returns-clause-content : goal.returns-clause-content
returns-clause-content c = what_is_taken_over_is_one_content
