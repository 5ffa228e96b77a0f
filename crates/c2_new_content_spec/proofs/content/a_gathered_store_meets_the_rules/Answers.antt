use Rattle.c2_new_content_spec.proofs.ContentLaws.{a_gathered_store_meets_the_rules_meets, a_gathered_store_meets_the_rules_reaches}
use Rattle.c2_new_content_spec.proofs.content.a_gathered_store_meets_the_rules.Goals as goal

pub returns-clause-meets : goal.returns-clause-meets
returns-clause-meets c = a_gathered_store_meets_the_rules_meets

pub returns-clause-reaches : goal.returns-clause-reaches
returns-clause-reaches c = a_gathered_store_meets_the_rules_reaches
