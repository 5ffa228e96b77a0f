use Rattle.c2_collect_spec.proofs.TheLaws.{redactions_of_a_chain_may_be_made_accepted, redactions_of_a_chain_may_be_made_first, redactions_of_a_chain_may_be_made_standing}
use Rattle.c2_collect_spec.proofs.laws.redactions_of_a_chain_may_be_made.Goals as goal

pub returns-clause-accepted : goal.returns-clause-accepted
returns-clause-accepted c = redactions_of_a_chain_may_be_made_accepted

pub returns-clause-first : goal.returns-clause-first
returns-clause-first c = redactions_of_a_chain_may_be_made_first

pub returns-clause-standing : goal.returns-clause-standing
returns-clause-standing c = redactions_of_a_chain_may_be_made_standing
