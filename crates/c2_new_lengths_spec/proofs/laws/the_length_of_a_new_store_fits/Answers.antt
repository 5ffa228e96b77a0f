use Rattle.c2_new_lengths_spec.proofs.TheLaws.{the_length_of_a_new_store_fits}
use Rattle.c2_new_lengths_spec.proofs.laws.the_length_of_a_new_store_fits.Goals as goal

pub returns : goal.returns
returns c = the_length_of_a_new_store_fits
