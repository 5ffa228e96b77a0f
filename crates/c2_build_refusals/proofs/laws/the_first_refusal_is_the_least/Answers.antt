use Rattle.c2_build_refusals.proofs.TheLaws.{the_first_refusal_is_the_least}
use Rattle.c2_build_refusals.proofs.laws.the_first_refusal_is_the_least.Goals as goal

pub returns : goal.returns
returns c = the_first_refusal_is_the_least
