use Rattle.c2_build_collect_base.proofs.TheLaws.{each_collect_refusal_has_its_error_no_faults, each_collect_refusal_has_its_error_tell}
use Rattle.c2_build_collect_base.proofs.laws.each_collect_refusal_has_its_error.Goals as goal

pub returns-clause-tell : goal.returns-clause-tell
returns-clause-tell c = each_collect_refusal_has_its_error_tell

pub returns-clause-no_faults : goal.returns-clause-no_faults
returns-clause-no_faults c = each_collect_refusal_has_its_error_no_faults
