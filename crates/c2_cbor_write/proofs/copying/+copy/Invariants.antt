use Rattle.std.proofs.Common.{◌≡◌, take, map}
use Rattle.c2_spec.specs.Cbor.Item.{Item}
use Rattle.c2_spec.specs.Cbor.View.{view}
use Rattle.c2_cbor_write.proofs.copying.+copy.Given as goal

abbrev pub invariant-copy_items-loop-item : goal.invariant-copy_items-loop-item
invariant-copy_items-loop-item l = map view l.copies.items ≡ map view (take l.item-index l.items)

abbrev pub invariant-copy_pairs-loop-pair : goal.invariant-copy_pairs-loop-pair
invariant-copy_pairs-loop-pair l =
    map {B = Item × Item} (λ p. (view p.0, view p.1)) l.copies.items ≡ map {B = Item × Item} (λ p. (view p.0, view p.1))
    (take l.pair-index l.pairs)
