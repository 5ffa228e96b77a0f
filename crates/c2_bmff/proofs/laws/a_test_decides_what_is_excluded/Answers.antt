use Rattle.c2_bmff.proofs.TheLaws.{a_test_decides_what_is_excluded}
use Rattle.c2_bmff.proofs.laws.a_test_decides_what_is_excluded.Goals as goal

pub returns : goal.returns
returns c = a_test_decides_what_is_excluded
