use Rattle.c2_build_plain.proofs.TheLaws.{some_bmff_succeeds}
use Rattle.c2_build_plain.proofs.laws.some_bmff_succeeds.Goals as goal

pub returns : goal.returns
returns c = some_bmff_succeeds
