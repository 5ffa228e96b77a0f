use Rattle.c2_new_content_spec.proofs.SplitLaws.{a_content_meets_the_rules_fresh, a_content_meets_the_rules_gathered, a_content_meets_the_rules_over}
use Rattle.c2_new_content_spec.proofs.split.a_content_meets_the_rules.Goals as goal

pub returns-clause-fresh : goal.returns-clause-fresh
returns-clause-fresh c = a_content_meets_the_rules_fresh

pub returns-clause-over : goal.returns-clause-over
returns-clause-over c = a_content_meets_the_rules_over

pub returns-clause-gathered : goal.returns-clause-gathered
returns-clause-gathered c = a_content_meets_the_rules_gathered
