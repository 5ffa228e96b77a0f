use Rattle.c2_collect_spec.proofs.TheLaws.{the_length_of_a_collected_store_fits_fits, the_length_of_a_collected_store_fits_short}
use Rattle.c2_collect_spec.proofs.laws.the_length_of_a_collected_store_fits.Goals as goal

pub returns-clause-short : goal.returns-clause-short
returns-clause-short c = the_length_of_a_collected_store_fits_short

pub returns-clause-fits : goal.returns-clause-fits
returns-clause-fits c = the_length_of_a_collected_store_fits_fits
