use Rattle.c2_new_lengths_spec.proofs.TheLaws.{a_definition_is_short}
use Rattle.c2_new_lengths_spec.proofs.laws.a_definition_is_short.Goals as goal

pub returns : goal.returns
returns c = a_definition_is_short
