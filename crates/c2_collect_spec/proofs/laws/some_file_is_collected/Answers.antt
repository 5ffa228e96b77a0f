use Rattle.c2_collect_spec.proofs.TheLaws.{some_file_is_collected}
use Rattle.c2_collect_spec.proofs.laws.some_file_is_collected.Goals as goal

pub returns : goal.returns
returns c = some_file_is_collected
