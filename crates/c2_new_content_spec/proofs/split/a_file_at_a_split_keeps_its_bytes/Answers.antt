use Rattle.c2_new_content_spec.proofs.SplitLaws.{a_file_at_a_split_keeps_its_bytes_file, a_file_at_a_split_keeps_its_bytes_left, a_file_at_a_split_keeps_its_bytes_taken}
use Rattle.c2_new_content_spec.proofs.split.a_file_at_a_split_keeps_its_bytes.Goals as goal

pub returns-clause-taken : goal.returns-clause-taken
returns-clause-taken c = a_file_at_a_split_keeps_its_bytes_taken

pub returns-clause-left : goal.returns-clause-left
returns-clause-left c = a_file_at_a_split_keeps_its_bytes_left

pub returns-clause-file : goal.returns-clause-file
returns-clause-file c = a_file_at_a_split_keeps_its_bytes_file
