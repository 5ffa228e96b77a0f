use Rattle.c2_build_plain.proofs.TheLaws.{some_build_succeeds}
use Rattle.c2_build_plain.proofs.laws.some_build_succeeds.Goals as goal

pub returns : goal.returns
returns c = some_build_succeeds
