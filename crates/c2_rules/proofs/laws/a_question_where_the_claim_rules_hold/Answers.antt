use Rattle.c2_rules.proofs.laws.a_question_where_the_claim_rules_hold.Goals as goal
use Rattle.c2_rules.proofs.ClaimLemmas.{asked_passes, claim_rules_ask}

pub returns-clause-asks : goal.returns-clause-asks
returns-clause-asks c = claim_rules_ask

pub returns-clause-passes : goal.returns-clause-passes
returns-clause-passes c = asked_passes
