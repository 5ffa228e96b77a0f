use Rattle.c2_bmff_insert_spec.proofs.TheLaws.{a_put_store_is_found}
use Rattle.c2_bmff_insert_spec.proofs.laws.a_put_store_is_found.Goals as goal

pub returns : goal.returns
returns c = a_put_store_is_found
