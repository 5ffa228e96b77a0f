use Rattle.c2_new_front_spec.proofs.TheLaws.{a_fresh_front_meets_the_rules}
use Rattle.c2_new_front_spec.proofs.laws.a_fresh_front_meets_the_rules.Goals as goal

pub returns : goal.returns
returns c = a_fresh_front_meets_the_rules
