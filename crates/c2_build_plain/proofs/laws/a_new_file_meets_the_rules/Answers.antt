use Rattle.c2_build_plain.proofs.TheLaws.{a_new_file_meets_the_rules}
use Rattle.c2_build_plain.proofs.laws.a_new_file_meets_the_rules.Goals as goal

pub returns : goal.returns
returns c = a_new_file_meets_the_rules
