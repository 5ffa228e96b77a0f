use Rattle.c2_cmd_strip.proofs.TheLaws.{a_strip_comes_to_one_outcome_each, a_strip_comes_to_one_outcome_once}
use Rattle.c2_cmd_strip.proofs.laws.a_strip_comes_to_one_outcome.Goals as goal

pub returns-clause-each : goal.returns-clause-each
returns-clause-each c = a_strip_comes_to_one_outcome_each

pub returns-clause-once : goal.returns-clause-once
returns-clause-once c = a_strip_comes_to_one_outcome_once
