use Rattle.c2_strip.proofs.TheLaws.{each_file_is_stripped_each, each_file_is_stripped_once}
use Rattle.c2_strip.proofs.laws.each_file_is_stripped.Goals as goal

pub returns-clause-each : goal.returns-clause-each
returns-clause-each c = each_file_is_stripped_each

pub returns-clause-once : goal.returns-clause-once
returns-clause-once c = each_file_is_stripped_once
