use Rattle.c2_new_file_spec.proofs.FileLaws.{what_is_left_is_one}
use Rattle.c2_new_file_spec.proofs.file.what_is_left_is_one.Goals as goal

pub returns : goal.returns
returns c = what_is_left_is_one
