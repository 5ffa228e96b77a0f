use Rattle.c2_new_file_spec.proofs.BmffLaws.{a_new_bmff_store_has_one_length_binding, a_new_bmff_store_has_one_length_store}
use Rattle.c2_new_file_spec.proofs.bmff.a_new_bmff_store_has_one_length.Goals as goal

pub returns-clause-binding : goal.returns-clause-binding
returns-clause-binding c = a_new_bmff_store_has_one_length_binding

pub returns-clause-store : goal.returns-clause-store
returns-clause-store c = a_new_bmff_store_has_one_length_store
