use Rattle.c2_collect_spec.proofs.TheLaws.{a_collected_file_is_refused_or_built_built, a_collected_file_is_refused_or_built_none}
use Rattle.c2_collect_spec.proofs.laws.a_collected_file_is_refused_or_built.Goals as goal

pub returns-clause-built : goal.returns-clause-built
returns-clause-built c = a_collected_file_is_refused_or_built_built

pub returns-clause-none : goal.returns-clause-none
returns-clause-none c = a_collected_file_is_refused_or_built_none
