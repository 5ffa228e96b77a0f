use Rattle.c2_bmff_chunks.proofs.TheLaws.{a_shifted_file_is_one_once, a_shifted_file_is_one_some}
use Rattle.c2_bmff_chunks.proofs.laws.a_shifted_file_is_one.Goals as goal

pub returns-clause-once : goal.returns-clause-once
returns-clause-once c = a_shifted_file_is_one_once

pub returns-clause-some : goal.returns-clause-some
returns-clause-some c = a_shifted_file_is_one_some
