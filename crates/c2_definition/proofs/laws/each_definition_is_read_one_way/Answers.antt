use Rattle.c2_definition.proofs.TheLaws.{each_definition_is_read_one_way_one, each_definition_is_read_one_way_some}
use Rattle.c2_definition.proofs.laws.each_definition_is_read_one_way.Goals as goal

pub returns-clause-some : goal.returns-clause-some
returns-clause-some c = each_definition_is_read_one_way_some

pub returns-clause-one : goal.returns-clause-one
returns-clause-one c = each_definition_is_read_one_way_one
