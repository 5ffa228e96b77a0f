use Rattle.c2_cbor_spec.proofs.TheLaws.{no_proper_prefix}
use Rattle.c2_cbor_spec.proofs.laws.no_proper_prefix.Goals as goal

pub returns : goal.returns
returns c = no_proper_prefix
