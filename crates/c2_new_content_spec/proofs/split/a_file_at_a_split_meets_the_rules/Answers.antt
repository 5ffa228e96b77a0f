use Rattle.c2_new_content_spec.proofs.SplitLaws.{a_file_at_a_split_meets_the_rules}
use Rattle.c2_new_content_spec.proofs.split.a_file_at_a_split_meets_the_rules.Goals as goal

pub returns : goal.returns
returns c = a_file_at_a_split_meets_the_rules
