use Rattle.c2_new_content_spec.proofs.SplitLaws.{a_file_built_in_its_place_meets_the_rules_fresh, a_file_built_in_its_place_meets_the_rules_over}
use Rattle.c2_new_content_spec.proofs.in_place.a_file_built_in_its_place_meets_the_rules.Goals as goal

pub returns-clause-fresh : goal.returns-clause-fresh
returns-clause-fresh c = a_file_built_in_its_place_meets_the_rules_fresh

pub returns-clause-over : goal.returns-clause-over
returns-clause-over c = a_file_built_in_its_place_meets_the_rules_over
