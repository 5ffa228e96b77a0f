use Rattle.c2_collect_spec.proofs.TheLaws.{what_is_collected_is_one_once, what_is_collected_is_one_some}
use Rattle.c2_collect_spec.proofs.laws.what_is_collected_is_one.Goals as goal

pub returns-clause-some : goal.returns-clause-some
returns-clause-some c = what_is_collected_is_one_some

pub returns-clause-once : goal.returns-clause-once
returns-clause-once c = what_is_collected_is_one_once
