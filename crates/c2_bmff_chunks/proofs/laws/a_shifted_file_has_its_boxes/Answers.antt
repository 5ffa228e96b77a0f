use Rattle.c2_bmff_chunks.proofs.TheLaws.{a_shifted_file_has_its_boxes_apart, a_shifted_file_has_its_boxes_behind, a_shifted_file_has_its_boxes_roots}
use Rattle.c2_bmff_chunks.proofs.laws.a_shifted_file_has_its_boxes.Goals as goal

pub returns-clause-apart : goal.returns-clause-apart
returns-clause-apart c = a_shifted_file_has_its_boxes_apart

pub returns-clause-behind : goal.returns-clause-behind
returns-clause-behind c = a_shifted_file_has_its_boxes_behind

pub returns-clause-roots : goal.returns-clause-roots
returns-clause-roots c = a_shifted_file_has_its_boxes_roots
