use Rattle.c2_cbor_spec.proofs.TheLaws.{plain_items_are_read_back}
use Rattle.c2_cbor_spec.proofs.laws.plain_items_are_read_back.Goals as goal

pub returns : goal.returns
returns c = plain_items_are_read_back
