use Rattle.c2_bmff_insert_spec.proofs.TheLaws.{a_base_has_no_store_cut, a_base_has_no_store_freed, a_base_has_no_store_none, a_base_has_no_store_once}
use Rattle.c2_bmff_insert_spec.proofs.laws.a_base_has_no_store.Goals as goal

pub returns-clause-none : goal.returns-clause-none
returns-clause-none c = a_base_has_no_store_none

pub returns-clause-cut : goal.returns-clause-cut
returns-clause-cut c = a_base_has_no_store_cut

pub returns-clause-freed : goal.returns-clause-freed
returns-clause-freed c = a_base_has_no_store_freed

pub returns-clause-once : goal.returns-clause-once
returns-clause-once c = a_base_has_no_store_once
