use Rattle.c2_cbor_spec.specs.Tracking.{spelled}
use Rattle.c2_cbor_spec.proofs.Marks.{sorted_first, stand_moved}
use Rattle.c2_cbor_heads.proofs.repeats.first_equal.Goals as goal

pub returns : goal.returns
returns c = sorted_first c.args.pairs.now c.in_ok-keys.keys.items _ _
    (c.in_ok-keys.ensures (spelled c.args.pairs.now) (stand_moved _ _ _ _ _ c.as_slice.ensures.value c.as_slice-2.ensures.value c.in_ok-bytes.ensures))
    c.as_slice-3.ensures.value c.least_repeated.ensures
