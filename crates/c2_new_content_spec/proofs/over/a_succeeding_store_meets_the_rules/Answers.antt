use Rattle.c2_new_content_spec.proofs.OverLaws.{a_succeeding_store_meets_the_rules}
use Rattle.c2_new_content_spec.proofs.over.a_succeeding_store_meets_the_rules.Goals as goal

pub returns : goal.returns
returns c = a_succeeding_store_meets_the_rules
