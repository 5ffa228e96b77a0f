use Rattle.c2_opening.proofs.TheLaws.{one_opening_file, one_opening_store}
use Rattle.c2_opening.proofs.laws.one_opening.Goals as goal

pub returns-clause-store : goal.returns-clause-store
returns-clause-store c = one_opening_store

pub returns-clause-file : goal.returns-clause-file
returns-clause-file c = one_opening_file
