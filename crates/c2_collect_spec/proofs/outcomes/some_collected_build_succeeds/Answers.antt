use Rattle.c2_collect_spec.proofs.TheLaws.{some_collected_build_succeeds}
use Rattle.c2_collect_spec.proofs.outcomes.some_collected_build_succeeds.Goals as goal

pub returns : goal.returns
returns c = some_collected_build_succeeds
