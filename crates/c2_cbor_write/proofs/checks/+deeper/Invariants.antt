use Rattle.std.proofs.Common.{◌↔◌, ◌<◌, drop}
use Rattle.c2_spec.specs.Cbor.View.{items_view, pairs_view}
use Rattle.c2_spec.specs.Cbor.Legal.{items_depth, pairs_depth}
use Rattle.c2_cbor_write.proofs.checks.+deeper.Given as goal

abbrev pub invariant-items_deeper-loop-item : goal.invariant-items_deeper-loop-item
invariant-items_deeper-loop-item l =
    (l.levels < items_depth (items_view (drop l.item-index l.items))) ↔ (l.levels < items_depth (items_view l.items))

abbrev pub invariant-pairs_deeper-loop-pair : goal.invariant-pairs_deeper-loop-pair
invariant-pairs_deeper-loop-pair l =
    (l.levels < pairs_depth (pairs_view (drop l.pair-index l.pairs))) ↔ (l.levels < pairs_depth (pairs_view l.pairs))
