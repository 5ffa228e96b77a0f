use Rattle.c2_collect_spec.proofs.TheLaws.{each_collected_file_meets_the_rules}
use Rattle.c2_collect_spec.proofs.laws.each_collected_file_meets_the_rules.Goals as goal

pub returns : goal.returns
returns c = each_collected_file_meets_the_rules
