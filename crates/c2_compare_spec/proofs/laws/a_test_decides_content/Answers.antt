use Rattle.c2_compare_spec.proofs.TheLaws.{a_test_decides_content}
use Rattle.c2_compare_spec.proofs.laws.a_test_decides_content.Goals as goal

pub returns : goal.returns
returns c = a_test_decides_content
