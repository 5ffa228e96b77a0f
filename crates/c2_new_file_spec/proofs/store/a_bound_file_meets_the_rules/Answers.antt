use Rattle.c2_new_file_spec.proofs.StoreLaws.{a_bound_file_meets_the_rules}
use Rattle.c2_new_file_spec.proofs.store.a_bound_file_meets_the_rules.Goals as goal

pub returns : goal.returns
returns c = a_bound_file_meets_the_rules
