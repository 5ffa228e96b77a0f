use Rattle.c2_compare_spec.proofs.TheLaws.{one_comparison_answer, one_comparison_asks}
use Rattle.c2_compare_spec.proofs.laws.one_comparison.Goals as goal

pub returns-clause-answer : goal.returns-clause-answer
returns-clause-answer c = one_comparison_answer

pub returns-clause-asks : goal.returns-clause-asks
returns-clause-asks c = one_comparison_asks
