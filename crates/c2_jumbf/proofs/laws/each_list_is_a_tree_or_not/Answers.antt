use Rattle.c2_jumbf.proofs.TheLaws.{each_list_is_a_tree_or_not_some}
use Rattle.c2_jumbf.proofs.laws.each_list_is_a_tree_or_not.Goals as goal
use Rattle.c2_spec.proofs.JumbfNoFault.{no_fault}
use Rattle.c2_spec.proofs.JumbfOneFault.{first_once}
use Rattle.c2_spec.proofs.JumbfOneTree.{spells_once}

pub returns-clause-some : goal.returns-clause-some
returns-clause-some c = each_list_is_a_tree_or_not_some

pub returns-clause-apart : goal.returns-clause-apart
returns-clause-apart c = no_fault

pub returns-clause-one_tree : goal.returns-clause-one_tree
returns-clause-one_tree c = spells_once

pub returns-clause-one_fault : goal.returns-clause-one_fault
returns-clause-one_fault c = first_once
