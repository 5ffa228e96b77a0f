use Rattle.c2_new_content_spec.proofs.SplitLaws.{the_file_of_a_content_meets_the_rules}
use Rattle.c2_new_content_spec.proofs.split.the_file_of_a_content_meets_the_rules.Goals as goal

pub returns : goal.returns
returns c = the_file_of_a_content_meets_the_rules
