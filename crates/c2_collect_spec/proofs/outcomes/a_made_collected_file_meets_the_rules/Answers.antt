use Rattle.c2_collect_spec.proofs.TheLaws.{a_made_collected_file_meets_the_rules}
use Rattle.c2_collect_spec.proofs.outcomes.a_made_collected_file_meets_the_rules.Goals as goal

pub returns : goal.returns
returns c = a_made_collected_file_meets_the_rules
