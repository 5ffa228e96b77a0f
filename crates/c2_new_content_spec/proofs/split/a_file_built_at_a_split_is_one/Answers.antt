use Rattle.c2_new_content_spec.proofs.SplitLaws.{a_file_built_at_a_split_is_one_is, a_file_built_at_a_split_is_one_once}
use Rattle.c2_new_content_spec.proofs.split.a_file_built_at_a_split_is_one.Goals as goal

pub returns-clause-is : goal.returns-clause-is
returns-clause-is c = a_file_built_at_a_split_is_one_is

pub returns-clause-once : goal.returns-clause-once
returns-clause-once c = a_file_built_at_a_split_is_one_once
