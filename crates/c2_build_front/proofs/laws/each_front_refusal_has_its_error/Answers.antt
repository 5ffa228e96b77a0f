use Rattle.c2_build_front.proofs.TheLaws.{each_front_refusal_has_its_error_no_faults, each_front_refusal_has_its_error_only, each_front_refusal_has_its_error_tell}
use Rattle.c2_build_front.proofs.laws.each_front_refusal_has_its_error.Goals as goal

pub returns-clause-tell : goal.returns-clause-tell
returns-clause-tell c = each_front_refusal_has_its_error_tell

pub returns-clause-no_faults : goal.returns-clause-no_faults
returns-clause-no_faults c = each_front_refusal_has_its_error_no_faults

pub returns-clause-only : goal.returns-clause-only
returns-clause-only c = each_front_refusal_has_its_error_only
