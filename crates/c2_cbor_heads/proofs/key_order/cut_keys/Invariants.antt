use Rattle.std.proofs.Common.{◌≡◌, ℕ, List, take, drop}
use Rattle.c2_cbor_spec.specs.Marks.{StandIn, marks, numbered, flat}
use Rattle.c2_cbor_heads.proofs.key_order.cut_keys.Given as goal

abbrev pub invariant-loop-i : goal.invariant-loop-i
invariant-loop-i l =
    (ks : List (List ℕ)) → StandIn ks l.bytes l.lens → (l.rest ≡ flat (drop l.i ks))
    × (marks l.keys.items ≡ numbered l.skip 0 (take l.i ks))
