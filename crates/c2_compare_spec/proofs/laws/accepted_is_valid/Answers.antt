use Rattle.c2_compare_spec.proofs.TheLaws.{accepted_is_valid_accepted, accepted_is_valid_valid}
use Rattle.c2_compare_spec.proofs.laws.accepted_is_valid.Goals as goal

pub returns-clause-valid : goal.returns-clause-valid
returns-clause-valid c = accepted_is_valid_valid

pub returns-clause-accepted : goal.returns-clause-accepted
returns-clause-accepted c = accepted_is_valid_accepted
