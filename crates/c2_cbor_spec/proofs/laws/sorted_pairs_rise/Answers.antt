use Rattle.c2_cbor_spec.proofs.TheLaws.{sorted_pairs_rise_rise, sorted_pairs_rise_stay}
use Rattle.c2_cbor_spec.proofs.laws.sorted_pairs_rise.Goals as goal

pub returns-clause-rise : goal.returns-clause-rise
returns-clause-rise c = sorted_pairs_rise_rise

pub returns-clause-stay : goal.returns-clause-stay
returns-clause-stay c = sorted_pairs_rise_stay
