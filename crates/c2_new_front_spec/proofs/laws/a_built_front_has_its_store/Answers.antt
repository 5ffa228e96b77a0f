use Rattle.c2_new_front_spec.proofs.TheLaws.{a_built_front_has_its_store}
use Rattle.c2_new_front_spec.proofs.laws.a_built_front_has_its_store.Goals as goal

pub returns : goal.returns
returns c = a_built_front_has_its_store
