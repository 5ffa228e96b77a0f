use Rattle.c2_collect_spec.proofs.TheLaws.{an_accepted_file_can_be_collected}
use Rattle.c2_collect_spec.proofs.laws.an_accepted_file_can_be_collected.Goals as goal

pub returns : goal.returns
returns c = an_accepted_file_can_be_collected
