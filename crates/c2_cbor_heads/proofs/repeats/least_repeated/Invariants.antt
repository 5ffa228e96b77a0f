use Rattle.c2_cbor_spec.specs.Marks.{marks, LeastRepeated}
use Rattle.c2_cbor_heads.proofs.repeats.least_repeated.Given as goal

abbrev pub invariant-loop-i : goal.invariant-loop-i
invariant-loop-i l = LeastRepeated (marks l.keys) l.i l.least
