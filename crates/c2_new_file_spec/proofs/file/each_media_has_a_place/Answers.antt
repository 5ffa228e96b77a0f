use Rattle.c2_new_file_spec.proofs.FileLaws.{each_media_has_a_place_container, each_media_has_a_place_fresh, each_media_has_a_place_left, each_media_has_a_place_place}
use Rattle.c2_new_file_spec.proofs.file.each_media_has_a_place.Goals as goal

pub returns-clause-fresh : goal.returns-clause-fresh
returns-clause-fresh c = each_media_has_a_place_fresh

pub returns-clause-left : goal.returns-clause-left
returns-clause-left c = each_media_has_a_place_left

pub returns-clause-container : goal.returns-clause-container
returns-clause-container c = each_media_has_a_place_container

pub returns-clause-place : goal.returns-clause-place
returns-clause-place c = each_media_has_a_place_place
