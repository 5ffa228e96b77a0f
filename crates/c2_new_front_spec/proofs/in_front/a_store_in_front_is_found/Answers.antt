use Rattle.c2_new_front_spec.proofs.TheLaws.{a_store_in_front_is_found_found, a_store_in_front_is_found_roots, a_store_in_front_is_found_text}
use Rattle.c2_new_front_spec.proofs.in_front.a_store_in_front_is_found.Goals as goal

pub returns-clause-roots : goal.returns-clause-roots
returns-clause-roots c = a_store_in_front_is_found_roots

pub returns-clause-found : goal.returns-clause-found
returns-clause-found c = a_store_in_front_is_found_found

pub returns-clause-text : goal.returns-clause-text
returns-clause-text c = a_store_in_front_is_found_text
