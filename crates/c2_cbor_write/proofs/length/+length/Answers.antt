use Rattle.std.proofs.Common.{length, ap, refl}
use Rattle.std.proofs.lemmas.List.{drop_all}
use Rattle.c2_spec.specs.Cbor.View.{items_view, pairs_view}
use Rattle.c2_spec.specs.Cbor.Deterministic.{preferred_items, preferred_pairs}
use Rattle.c2_cbor_write.proofs.Lengths.{sum_as, sum_on, sum_off, sum_done, length-Bytes, length-Text, length-List, length-Map, length-Tag}
use Rattle.c2_cbor_write.proofs.length.+length.Goals as goal

pub with_item-returns-in-Bytes : goal.with_item-returns-in-Bytes
with_item-returns-in-Bytes t c =
    sum_as _ _ _ _ (length-Bytes c.args.item.now c.in-Bytes.bytes _ _ c.in-Bytes.is c.as_slice.ensures.value refl)
    (c.with_string.ensures 2)

pub with_item-returns-in-Text : goal.with_item-returns-in-Text
with_item-returns-in-Text t c =
    sum_as _ _ _ _ (length-Text c.args.item.now c.in-Text.text _ _ c.in-Text.is c.as_str.ensures.value refl)
    (c.with_string-in-Text.ensures 3)

pub with_item-returns-in_err-start-in-List : goal.with_item-returns-in_err-start-in-List
with_item-returns-in_err-start-in-List t c =
    sum_off _ _ _ _ _ c.from_residual.ensures c.in_err-start-in-List.ensures (length-List c.args.item.now c.in-List.items _ _ _ c.in-List.is c.len.ensures refl (c.head_len-in-List.ensures 4))

pub with_item-returns-in_ok-start-in-List : goal.with_item-returns-in_ok-start-in-List
with_item-returns-in_ok-start-in-List t c =
    sum_on _ _ _ _ _ _ c.in_ok-start-in-List.ensures c.with_items.ensures (length-List c.args.item.now c.in-List.items _ _ _ c.in-List.is c.len.ensures c.deref.ensures.value (c.head_len-in-List.ensures 4))

pub with_item-returns-in_err-start-in-Map : goal.with_item-returns-in_err-start-in-Map
with_item-returns-in_err-start-in-Map t c =
    sum_off _ _ _ _ _ c.from_residual-in_err-start-in-Map.ensures c.in_err-start-in-Map.ensures (length-Map c.args.item.now c.in-Map.pairs _ _ _ c.in-Map.is c.len-in-Map.ensures refl (c.head_len-in-Map.ensures 5))

pub with_item-returns-in_ok-start-in-Map : goal.with_item-returns-in_ok-start-in-Map
with_item-returns-in_ok-start-in-Map t c =
    sum_on _ _ _ _ _ _ c.in_ok-start-in-Map.ensures c.with_pairs.ensures (length-Map c.args.item.now c.in-Map.pairs _ _ _ c.in-Map.is c.len-in-Map.ensures c.deref-in-Map.ensures.value (c.head_len-in-Map.ensures 5))

pub with_item-returns-in_err-start-in-Tag : goal.with_item-returns-in_err-start-in-Tag
with_item-returns-in_err-start-in-Tag t c =
    sum_off _ _ _ _ _ c.from_residual-in_err-start-in-Tag.ensures c.in_err-start-in-Tag.ensures (length-Tag c.args.item.now c.in-Tag.n _ c.in-Tag.inner _ c.in-Tag.is refl (c.head_len-in-Tag.ensures 6))

pub with_item-returns-in_ok-start-in-Tag : goal.with_item-returns-in_ok-start-in-Tag
with_item-returns-in_ok-start-in-Tag t c =
    sum_on _ _ _ _ _ _ c.in_ok-start-in-Tag.ensures c.with_item.ensures (length-Tag c.args.item.now c.in-Tag.n _ c.in-Tag.inner _ c.in-Tag.is c.deref-in-Tag.ensures (c.head_len-in-Tag.ensures 6))

pub with_items-returns : goal.with_items-returns
with_items-returns t c =
    sum_done _ _ _ _ c.loop-item.invariant.0
    (ap (λ vs. length (preferred_items (items_view vs))) (drop_all c.loop-item.item-index c.args.items.now c.loop-item-test.false))
    c.loop-item.invariant.1

pub with_pairs-returns : goal.with_pairs-returns
with_pairs-returns t c =
    sum_done _ _ _ _ c.loop-pair.invariant.0
    (ap (λ ps. length (preferred_pairs (pairs_view ps))) (drop_all c.loop-pair.pair-index c.args.pairs.now c.loop-pair-test.false))
    c.loop-pair.invariant.1
