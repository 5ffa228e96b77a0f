use Rattle.c2_compare_spec.proofs.TheLaws.{a_difference_is_found_none, a_difference_is_found_some}
use Rattle.c2_compare_spec.proofs.laws.a_difference_is_found.Goals as goal

pub returns-clause-none : goal.returns-clause-none
returns-clause-none c = a_difference_is_found_none

pub returns-clause-some : goal.returns-clause-some
returns-clause-some c = a_difference_is_found_some
