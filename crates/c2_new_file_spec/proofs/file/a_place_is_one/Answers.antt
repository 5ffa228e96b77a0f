use Rattle.c2_new_file_spec.proofs.FileLaws.{a_place_is_one}
use Rattle.c2_new_file_spec.proofs.file.a_place_is_one.Goals as goal

pub returns : goal.returns
returns c = a_place_is_one
