use Rattle.std.proofs.Common.{take}
use Rattle.c2_cbor_spec.specs.Tracking.{spelled}
use Rattle.c2_cbor_spec.specs.Marks.{StandIn}
use Rattle.c2_cbor_heads.proofs.repeats.spelled_keys.Given as goal

abbrev pub invariant-loop-i : goal.invariant-loop-i
invariant-loop-i l = StandIn (spelled (take l.i l.pairs)) l.bytes.items l.lens.items
