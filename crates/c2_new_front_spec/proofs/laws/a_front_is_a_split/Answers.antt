use Rattle.c2_new_front_spec.proofs.TheLaws.{a_front_is_a_split}
use Rattle.c2_new_front_spec.proofs.laws.a_front_is_a_split.Goals as goal

pub returns : goal.returns
returns c = a_front_is_a_split
