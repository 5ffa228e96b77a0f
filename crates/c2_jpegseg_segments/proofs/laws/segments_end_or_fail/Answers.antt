use Rattle.c2_jpegseg_segments.proofs.TheLaws.{segments_end_or_fail_each, segments_end_or_fail_no_fault, segments_end_or_fail_one, segments_end_or_fail_one_fault}
use Rattle.c2_jpegseg_segments.proofs.laws.segments_end_or_fail.Goals as goal

pub returns-clause-each : goal.returns-clause-each
returns-clause-each c = segments_end_or_fail_each

pub returns-clause-one : goal.returns-clause-one
returns-clause-one c = segments_end_or_fail_one

pub returns-clause-no_fault : goal.returns-clause-no_fault
returns-clause-no_fault c = segments_end_or_fail_no_fault

pub returns-clause-one_fault : goal.returns-clause-one_fault
returns-clause-one_fault c = segments_end_or_fail_one_fault
