use Rattle.c2_collect_spec.proofs.TheLaws.{stores_join_join, stores_join_none, stores_join_taken, stores_join_valid}
use Rattle.c2_collect_spec.proofs.laws.stores_join.Goals as goal

pub returns-clause-valid : goal.returns-clause-valid
returns-clause-valid c = stores_join_valid

pub returns-clause-none : goal.returns-clause-none
returns-clause-none c = stores_join_none

pub returns-clause-join : goal.returns-clause-join
returns-clause-join c = stores_join_join

pub returns-clause-taken : goal.returns-clause-taken
returns-clause-taken c = stores_join_taken
