use Rattle.c2_chain_spec.proofs.ChainLaws.{tests_decide_from_roots_reached, tests_decide_from_roots_redacted}
use Rattle.c2_chain_spec.proofs.chain.tests_decide_from_roots.Goals as goal

pub returns-clause-reached : goal.returns-clause-reached
returns-clause-reached c = tests_decide_from_roots_reached

pub returns-clause-redacted : goal.returns-clause-redacted
returns-clause-redacted c = tests_decide_from_roots_redacted
