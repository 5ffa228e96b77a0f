use Rattle.c2_bmff_insert_spec.proofs.TheLaws.{a_put_store_is_not_covered_same, a_put_store_is_not_covered_some, a_put_store_is_not_covered_text}
use Rattle.c2_bmff_insert_spec.proofs.laws.a_put_store_is_not_covered.Goals as goal

pub returns-clause-text : goal.returns-clause-text
returns-clause-text c = a_put_store_is_not_covered_text

pub returns-clause-some : goal.returns-clause-some
returns-clause-some c = a_put_store_is_not_covered_some

pub returns-clause-same : goal.returns-clause-same
returns-clause-same c = a_put_store_is_not_covered_same
