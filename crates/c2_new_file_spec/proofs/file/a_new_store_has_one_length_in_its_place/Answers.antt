use Rattle.c2_new_file_spec.proofs.FileLaws.{a_new_store_has_one_length_in_its_place}
use Rattle.c2_new_file_spec.proofs.file.a_new_store_has_one_length_in_its_place.Goals as goal

pub returns : goal.returns
returns c = a_new_store_has_one_length_in_its_place
