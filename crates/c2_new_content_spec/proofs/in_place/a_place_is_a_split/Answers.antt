use Rattle.c2_new_content_spec.proofs.SplitLaws.{a_place_is_a_split_file, a_place_is_a_split_split}
use Rattle.c2_new_content_spec.proofs.in_place.a_place_is_a_split.Goals as goal

pub returns-clause-split : goal.returns-clause-split
returns-clause-split c = a_place_is_a_split_split

pub returns-clause-file : goal.returns-clause-file
returns-clause-file c = a_place_is_a_split_file
