use Rattle.c2_compare_spec.proofs.TheLaws.{a_first_difference_is_real_real, a_first_difference_is_real_theirs}
use Rattle.c2_compare_spec.proofs.laws.a_first_difference_is_real.Goals as goal

pub returns-clause-real : goal.returns-clause-real
returns-clause-real c = a_first_difference_is_real_real

pub returns-clause-theirs : goal.returns-clause-theirs
returns-clause-theirs c = a_first_difference_is_real_theirs
