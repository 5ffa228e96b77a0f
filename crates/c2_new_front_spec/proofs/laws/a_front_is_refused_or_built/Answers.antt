use Rattle.c2_new_front_spec.proofs.TheLaws.{a_front_is_refused_or_built_built, a_front_is_refused_or_built_none}
use Rattle.c2_new_front_spec.proofs.laws.a_front_is_refused_or_built.Goals as goal

pub returns-clause-built : goal.returns-clause-built
returns-clause-built c = a_front_is_refused_or_built_built

pub returns-clause-none : goal.returns-clause-none
returns-clause-none c = a_front_is_refused_or_built_none
