use Rattle.c2_collect_spec.proofs.TheLaws.{a_collected_store_meets_the_rules_meets, a_collected_store_meets_the_rules_reaches}
use Rattle.c2_collect_spec.proofs.laws.a_collected_store_meets_the_rules.Goals as goal

pub returns-clause-meets : goal.returns-clause-meets
returns-clause-meets c = a_collected_store_meets_the_rules_meets

pub returns-clause-reaches : goal.returns-clause-reaches
returns-clause-reaches c = a_collected_store_meets_the_rules_reaches
