use Rattle.c2_compare_spec.proofs.TheLaws.{a_step_keeps_equal_claims_back, a_step_keeps_equal_claims_forth, a_step_keeps_equal_claims_real}
use Rattle.c2_compare_spec.proofs.laws.a_step_keeps_equal_claims.Goals as goal

pub returns-clause-forth : goal.returns-clause-forth
returns-clause-forth c = a_step_keeps_equal_claims_forth

pub returns-clause-back : goal.returns-clause-back
returns-clause-back c = a_step_keeps_equal_claims_back

pub returns-clause-real : goal.returns-clause-real
returns-clause-real c = a_step_keeps_equal_claims_real
