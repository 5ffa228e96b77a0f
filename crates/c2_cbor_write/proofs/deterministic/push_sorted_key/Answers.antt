use Rattle.std.proofs.Common.{[]}
use Rattle.c2_cbor_spec.proofs.Marks.{Lent}
use Rattle.c2_cbor_write.proofs.Entries.{sorted_key}
use Rattle.c2_cbor_write.proofs.deterministic.push_sorted_key.Goals as goal

pub returns : goal.returns
returns c =
    let d : Lent = (0, record { ref_ptr = (0, 0); now = [] }, 0) in
    sorted_key _ c.args.keys.now c.args.i d _ _ _ c.requires.inside c.in_ok-take_room.ensures c.push_key.ensures
