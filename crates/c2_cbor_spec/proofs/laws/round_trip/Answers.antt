use Rattle.c2_cbor_spec.proofs.TheLaws.{round_trip}
use Rattle.c2_cbor_spec.proofs.laws.round_trip.Goals as goal

pub returns : goal.returns
returns c = round_trip
