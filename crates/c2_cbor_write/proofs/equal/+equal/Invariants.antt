use Rattle.std.proofs.Common.{drop}
use Rattle.c2_spec.specs.Cbor.View.{items_view, pairs_view}
use Rattle.c2_cbor_spec.specs.Fine.{FineItems, FinePairs}
use Rattle.c2_spec.specs.Cbor.Legal.{ItemsHaveDistinctKeys}
use Rattle.c2_spec.specs.Cbor.Unwritable.{ItemsHaveEqualKeys}
use Rattle.c2_cbor_write.proofs.EqualKeys.{PartsLeft}
use Rattle.c2_cbor_write.proofs.equal.+equal.Given as goal

abbrev pub invariant-items_equal-loop-item : goal.invariant-items_equal-loop-item
invariant-items_equal-loop-item l = FineItems (items_view l.items) →
    FineItems (items_view (drop l.item-index l.items))
    × (ItemsHaveEqualKeys (items_view (drop l.item-index l.items)) → ItemsHaveEqualKeys (items_view l.items))
    × (ItemsHaveDistinctKeys (items_view (drop l.item-index l.items)) → ItemsHaveDistinctKeys (items_view l.items))

abbrev pub invariant-pairs_equal-loop-pair : goal.invariant-pairs_equal-loop-pair
invariant-pairs_equal-loop-pair l =
    FinePairs (pairs_view l.pairs) → PartsLeft (pairs_view l.pairs) (pairs_view (drop l.pair-index l.pairs))
