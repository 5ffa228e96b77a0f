use Rattle.c2_new_front_spec.proofs.TheLaws.{a_built_front_is_one_once, a_built_front_is_one_some}
use Rattle.c2_new_front_spec.proofs.laws.a_built_front_is_one.Goals as goal

pub returns-clause-some : goal.returns-clause-some
returns-clause-some c = a_built_front_is_one_some

pub returns-clause-once : goal.returns-clause-once
returns-clause-once c = a_built_front_is_one_once
