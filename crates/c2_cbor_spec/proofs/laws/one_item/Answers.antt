use Rattle.c2_cbor_spec.proofs.laws.one_item.Goals as goal
use Rattle.c2_cbor_spec.proofs.PlainBack.{one_item}

pub returns : goal.returns
returns c = one_item
