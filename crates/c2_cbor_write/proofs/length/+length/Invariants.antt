use Rattle.std.proofs.Common.{◌≡◌, ◌+◌, ◌^◌, ◌<◌, length, drop}
use Rattle.c2_spec.specs.Cbor.View.{items_view, pairs_view}
use Rattle.c2_spec.specs.Cbor.Deterministic.{preferred_items, preferred_pairs}
use Rattle.c2_cbor_write.proofs.length.+length.Given as goal

abbrev pub invariant-with_items-loop-item : goal.invariant-with_items-loop-item
invariant-with_items-loop-item l =
    (l.total < 2 ^ 64)
    × (l.total + length (preferred_items (items_view (drop l.item-index l.items))) ≡ l.initial.start + length (preferred_items (items_view l.items)))

abbrev pub invariant-with_pairs-loop-pair : goal.invariant-with_pairs-loop-pair
invariant-with_pairs-loop-pair l =
    (l.total < 2 ^ 64)
    × (l.total + length (preferred_pairs (pairs_view (drop l.pair-index l.pairs))) ≡ l.initial.start + length (preferred_pairs (pairs_view l.pairs)))
