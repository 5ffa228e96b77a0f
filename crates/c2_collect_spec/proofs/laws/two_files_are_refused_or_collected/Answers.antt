use Rattle.c2_collect_spec.proofs.TheLaws.{two_files_are_refused_or_collected_collects, two_files_are_refused_or_collected_none}
use Rattle.c2_collect_spec.proofs.laws.two_files_are_refused_or_collected.Goals as goal

pub returns-clause-collects : goal.returns-clause-collects
returns-clause-collects c = two_files_are_refused_or_collected_collects

pub returns-clause-none : goal.returns-clause-none
returns-clause-none c = two_files_are_refused_or_collected_none
