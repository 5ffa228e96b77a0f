use Rattle.c2_new_front_spec.proofs.TheLaws.{bytes_of_a_built_front_stay}
use Rattle.c2_new_front_spec.proofs.laws.bytes_of_a_built_front_stay.Goals as goal

pub returns : goal.returns
returns c = bytes_of_a_built_front_stay
