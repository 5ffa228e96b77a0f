use Rattle.c2_jpegseg_segments.proofs.TheLaws.{each_file_is_located_located, each_file_is_located_once}
use Rattle.c2_jpegseg_segments.proofs.laws.each_file_is_located.Goals as goal

pub returns-clause-located : goal.returns-clause-located
returns-clause-located c = each_file_is_located_located

pub returns-clause-once : goal.returns-clause-once
returns-clause-once c = each_file_is_located_once
