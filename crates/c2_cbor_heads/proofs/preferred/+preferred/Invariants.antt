use Rattle.std.proofs.Common.{◌≡◌, ◌++◌, drop}
use Rattle.c2_spec.specs.Cbor.View.{items_view, pairs_view}
use Rattle.c2_spec.specs.Cbor.Deterministic.{preferred_items, preferred_pairs}
use Rattle.c2_cbor_heads.proofs.preferred.+preferred.Given as goal

abbrev pub invariant-push_items-loop-item : goal.invariant-push_items-loop-item
invariant-push_items-loop-item l =
    l.out.items ++ preferred_items (items_view (drop l.item-index l.items)) ≡ l.initial.out.items ++ preferred_items
    (items_view l.items)

abbrev pub invariant-push_pairs-loop-pair : goal.invariant-push_pairs-loop-pair
invariant-push_pairs-loop-pair l =
    l.out.items ++ preferred_pairs (pairs_view (drop l.pair-index l.pairs)) ≡ l.initial.out.items ++ preferred_pairs
    (pairs_view l.pairs)
