use Rattle.c2_jpegseg_segments.proofs.TheLaws.{a_located_file_is_segments_none, a_located_file_is_segments_store}
use Rattle.c2_jpegseg_segments.proofs.laws.a_located_file_is_segments.Goals as goal

pub returns-clause-store : goal.returns-clause-store
returns-clause-store c = a_located_file_is_segments_store

pub returns-clause-none : goal.returns-clause-none
returns-clause-none c = a_located_file_is_segments_none
