use Rattle.c2_compare_spec.proofs.TheLaws.{each_comparison_answer, each_comparison_asks}
use Rattle.c2_compare_spec.proofs.laws.each_comparison.Goals as goal

pub returns-clause-answer : goal.returns-clause-answer
returns-clause-answer c = each_comparison_answer

pub returns-clause-asks : goal.returns-clause-asks
returns-clause-asks c = each_comparison_asks
