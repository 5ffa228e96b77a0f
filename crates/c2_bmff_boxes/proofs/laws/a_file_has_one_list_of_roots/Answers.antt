use Rattle.c2_bmff_boxes.proofs.laws.a_file_has_one_list_of_roots.Goals as goal
use Rattle.c2_spec.proofs.BmffNoFault.{roots_or_fault}
use Rattle.c2_spec.proofs.BmffOneList.{roots_once}

pub returns-clause-once : goal.returns-clause-once
returns-clause-once c = roots_once

pub returns-clause-fault : goal.returns-clause-fault
returns-clause-fault c = roots_or_fault
