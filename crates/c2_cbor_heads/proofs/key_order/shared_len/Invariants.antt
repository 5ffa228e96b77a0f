use Rattle.std.proofs.Common.{◌≡◌, ℕ, List, take, drop}
use Rattle.c2_cbor_spec.specs.Marks.{flat, StandIn, AllAgree}
use Rattle.c2_cbor_heads.proofs.key_order.shared_len.Given as goal

abbrev pub invariant-loop-i : goal.invariant-loop-i
invariant-loop-i l =
    (ks : List (List ℕ)) → StandIn ks l.bytes l.lens → (l.rest ≡ flat (drop l.i ks)) × AllAgree l.shared l.bytes
    (take l.i ks)
