use Rattle.c2_collect_spec.proofs.TheLaws.{a_collected_file_is_made}
use Rattle.c2_collect_spec.proofs.outcomes.a_collected_file_is_made.Goals as goal

pub returns : goal.returns
returns c = a_collected_file_is_made
