use Rattle.c2_new_lengths_spec.proofs.TheLaws.{a_new_store_is_short_any, a_new_store_is_short_film, a_new_store_is_short_jpeg}
use Rattle.c2_new_lengths_spec.proofs.laws.a_new_store_is_short.Goals as goal

pub returns-clause-any : goal.returns-clause-any
returns-clause-any c = a_new_store_is_short_any

pub returns-clause-jpeg : goal.returns-clause-jpeg
returns-clause-jpeg c = a_new_store_is_short_jpeg

pub returns-clause-film : goal.returns-clause-film
returns-clause-film c = a_new_store_is_short_film
