use Rattle.std.proofs.Common.{◌≡◌, None, take}
use Rattle.c2_cbor_spec.specs.Tracking.{first_equal, keys_of, NoneAbove}
use Rattle.c2_cbor_heads.proofs.repeats.keys_rise.Given as goal

abbrev pub invariant-loop-pair : goal.invariant-loop-pair
invariant-loop-pair l =
    (first_equal (take l.pair-index l.pairs) ≡ None) × NoneAbove l.last.items (keys_of (take l.pair-index l.pairs))
