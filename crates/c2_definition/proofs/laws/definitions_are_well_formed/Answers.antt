use Rattle.c2_definition.proofs.TheLaws.{definitions_are_well_formed}
use Rattle.c2_definition.proofs.laws.definitions_are_well_formed.Goals as goal

pub returns : goal.returns
returns c = definitions_are_well_formed
