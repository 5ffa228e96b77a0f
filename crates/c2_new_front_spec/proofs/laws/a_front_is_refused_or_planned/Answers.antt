use Rattle.c2_new_front_spec.proofs.TheLaws.{a_front_is_refused_or_planned_fresh, a_front_is_refused_or_planned_none, a_front_is_refused_or_planned_planned}
use Rattle.c2_new_front_spec.proofs.laws.a_front_is_refused_or_planned.Goals as goal

pub returns-clause-planned : goal.returns-clause-planned
returns-clause-planned c = a_front_is_refused_or_planned_planned

pub returns-clause-none : goal.returns-clause-none
returns-clause-none c = a_front_is_refused_or_planned_none

pub returns-clause-fresh : goal.returns-clause-fresh
returns-clause-fresh c = a_front_is_refused_or_planned_fresh
