use Rattle.c2_new_content_spec.proofs.SplitLaws.{a_base_stays}
use Rattle.c2_new_content_spec.proofs.in_place.a_base_stays.Goals as goal

pub returns : goal.returns
returns c = a_base_stays
