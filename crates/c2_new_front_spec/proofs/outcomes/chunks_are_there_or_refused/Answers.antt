use Rattle.c2_new_front_spec.proofs.TheLaws.{chunks_are_there_or_refused}
use Rattle.c2_new_front_spec.proofs.outcomes.chunks_are_there_or_refused.Goals as goal

pub returns : goal.returns
returns c = chunks_are_there_or_refused
