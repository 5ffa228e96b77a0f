use Rattle.std.proofs.Common.{drop}
use Rattle.c2_spec.specs.Cbor.View.{items_view, pairs_view}
use Rattle.c2_cbor_spec.specs.Fine.{FineItems, FinePairs}
use Rattle.c2_spec.specs.Cbor.Legal.{ItemsHaveBadSimple, PairsHaveBadSimple}
use Rattle.c2_cbor_write.proofs.checks.+fine.Given as goal

abbrev pub invariant-items_fine-loop-item : goal.invariant-items_fine-loop-item
invariant-items_fine-loop-item l =
    (FineItems (items_view (drop l.item-index l.items)) → FineItems (items_view l.items))
    × (ItemsHaveBadSimple (items_view (drop l.item-index l.items)) → ItemsHaveBadSimple (items_view l.items))

abbrev pub invariant-pairs_fine-loop-pair : goal.invariant-pairs_fine-loop-pair
invariant-pairs_fine-loop-pair l =
    (FinePairs (pairs_view (drop l.pair-index l.pairs)) → FinePairs (pairs_view l.pairs))
    × (PairsHaveBadSimple (pairs_view (drop l.pair-index l.pairs)) → PairsHaveBadSimple (pairs_view l.pairs))
