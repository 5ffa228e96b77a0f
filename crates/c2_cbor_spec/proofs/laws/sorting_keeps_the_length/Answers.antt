use Rattle.c2_cbor_spec.proofs.TheLaws.{sorting_keeps_the_length}
use Rattle.c2_cbor_spec.proofs.laws.sorting_keeps_the_length.Goals as goal

pub returns : goal.returns
returns c = sorting_keeps_the_length
