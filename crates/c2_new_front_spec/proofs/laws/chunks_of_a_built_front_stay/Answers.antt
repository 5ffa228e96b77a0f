use Rattle.c2_new_front_spec.proofs.TheLaws.{chunks_of_a_built_front_stay}
use Rattle.c2_new_front_spec.proofs.laws.chunks_of_a_built_front_stay.Goals as goal

pub returns : goal.returns
returns c = chunks_of_a_built_front_stay
