use Rattle.c2_cbor_spec.specs.Marks.{AgreeBelow}
use Rattle.c2_cbor_heads.proofs.key_order.agreeing.Given as goal

abbrev pub invariant-loop-i : goal.invariant-loop-i
invariant-loop-i l = AgreeBelow l.i l.first l.key
