use Rattle.c2_new_content_spec.proofs.SplitLaws.{a_new_store_has_one_length_at_its_split}
use Rattle.c2_new_content_spec.proofs.split.a_new_store_has_one_length_at_its_split.Goals as goal

pub returns : goal.returns
returns c = a_new_store_has_one_length_at_its_split
