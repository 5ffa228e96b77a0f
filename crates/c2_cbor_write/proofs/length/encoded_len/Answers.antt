use Rattle.c2_spec.specs.Cbor.View.{view}
use Rattle.c2_cbor_write.proofs.Lengths.{from_none}
use Rattle.c2_cbor_spec.proofs.Lengths.{sorted_length}
use Rattle.c2_cbor_write.proofs.length.encoded_len.Goals as goal

pub returns : goal.returns
returns c = from_none _ _ _ c.with_item.ensures (sorted_length (view c.args.item.now))
