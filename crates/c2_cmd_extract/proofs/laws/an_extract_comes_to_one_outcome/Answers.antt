use Rattle.c2_cmd_extract.proofs.TheLaws.{an_extract_comes_to_one_outcome_each, an_extract_comes_to_one_outcome_once}
use Rattle.c2_cmd_extract.proofs.laws.an_extract_comes_to_one_outcome.Goals as goal

pub returns-clause-each : goal.returns-clause-each
returns-clause-each c = an_extract_comes_to_one_outcome_each

pub returns-clause-once : goal.returns-clause-once
returns-clause-once c = an_extract_comes_to_one_outcome_once
