use Rattle.c2_pad.proofs.TheLaws.{fills_are_exact}
use Rattle.c2_pad.proofs.laws.fills_are_exact.Goals as goal

pub returns : goal.returns
returns c = fills_are_exact
