use Rattle.c2_new_front_spec.proofs.TheLaws.{the_covered_text_is_known_first}
use Rattle.c2_new_front_spec.proofs.laws.the_covered_text_is_known_first.Goals as goal

pub returns : goal.returns
returns c = the_covered_text_is_known_first
