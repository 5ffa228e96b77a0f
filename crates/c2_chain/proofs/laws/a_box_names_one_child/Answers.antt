use Rattle.c2_chain.proofs.TheLaws.{a_box_names_one_child_children, a_box_names_one_child_indexed, a_box_names_one_child_names}
use Rattle.c2_chain.proofs.laws.a_box_names_one_child.Goals as goal

pub returns-clause-names : goal.returns-clause-names
returns-clause-names c = a_box_names_one_child_names

pub returns-clause-children : goal.returns-clause-children
returns-clause-children c = a_box_names_one_child_children

pub returns-clause-indexed : goal.returns-clause-indexed
returns-clause-indexed c = a_box_names_one_child_indexed
