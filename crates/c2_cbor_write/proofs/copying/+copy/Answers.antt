use Rattle.std.proofs.Common.{◌≡◌, ◌+◌, ◌++◌, ◌∷◌, [], take, sym, ap, ◌∙◌, arith}
use Rattle.std.proofs.lemmas.List.{take_more}
use Rattle.c2_spec.specs.Cbor.Item.{Item}
use Rattle.c2_spec.specs.Cbor.View.{view}
use Rattle.c2_cbor_write.proofs.Copies.{stands, bytes_seen, text_seen, tag_seen, list_copied, map_copied, copied_on}
use Rattle.c2_cbor_write.proofs.copying.+copy.Goals as goal

pub copy-returns-in-Uint : goal.copy-returns-in-Uint
copy-returns-in-Uint t c = sym (ap view c.in-Uint.is)

pub copy-returns-in-Nint : goal.copy-returns-in-Nint
copy-returns-in-Nint t c = sym (ap view c.in-Nint.is)

pub copy-returns-in-Simple : goal.copy-returns-in-Simple
copy-returns-in-Simple t c = sym (ap view c.in-Simple.is)

pub copy-returns-in-Half : goal.copy-returns-in-Half
copy-returns-in-Half t c = sym (ap view c.in-Half.is)

pub copy-returns-in-Single : goal.copy-returns-in-Single
copy-returns-in-Single t c = sym (ap view c.in-Single.is)

pub copy-returns-in-Double : goal.copy-returns-in-Double
copy-returns-in-Double t c = sym (ap view c.in-Double.is)

pub copy-returns-in-Bytes : goal.copy-returns-in-Bytes
copy-returns-in-Bytes t c =
    stands _ _ _ (bytes_seen c.args.item.now c.in-Bytes.b _ c.in-Bytes.is c.as_slice.ensures.value) c.byte_item.ensures

pub copy-returns-in-Text : goal.copy-returns-in-Text
copy-returns-in-Text t c =
    stands _ _ _ (text_seen c.args.item.now c.in-Text.t _ c.in-Text.is c.as_str.ensures.value) c.text_item.ensures

pub copy-returns-in_ok-within-in-Tag : goal.copy-returns-in_ok-within-in-Tag
copy-returns-in_ok-within-in-Tag t c =
    stands _ _ _
    (tag_seen c.args.item.now c.in-Tag.n c.in-Tag.inner _ _ c.in-Tag.is c.deref-in-Tag.ensures c.in_ok-within-in-Tag.ensures)
    c.tagged.ensures

pub copy-returns-in_ok-copy_items-in-List : goal.copy-returns-in_ok-copy_items-in-List
copy-returns-in_ok-copy_items-in-List t c =
    list_copied c.args.item.now c.in-List.items _ _ c.in-List.is c.deref.ensures.value c.in_ok-copy_items-in-List.ensures

pub copy-returns-in_ok-copy_pairs-in-Map : goal.copy-returns-in_ok-copy_pairs-in-Map
copy-returns-in_ok-copy_pairs-in-Map t c =
    map_copied c.args.item.now c.in-Map.pairs _ _ c.in-Map.is c.deref-in-Map.ensures.value
    c.in_ok-copy_pairs-in-Map.ensures

pub copy_items-loop-item-preserved : goal.copy_items-loop-item-preserved
copy_items-loop-item-preserved t c =
    let xs = c.args.items.now in
    let i = c.loop-item.item-index in
    let x = c.item-item.result in
    let here : take (i + 1) xs ≡ take i xs ++ x ∷ [] =
    take_more xs i x (omega arith) ∙ ap (λ y. take i xs ++ y ∷ []) (sym c.item-item.is) in
    copied_on view xs c.loop-item.copies.items _ i x _ here c.in_ok-push.ensures.items c.in_ok-copy.ensures
    c.loop-item.invariant

pub copy_pairs-loop-pair-preserved : goal.copy_pairs-loop-pair-preserved
copy_pairs-loop-pair-preserved t c =
    let xs = c.args.pairs.now in
    let i = c.loop-pair.pair-index in
    let x = c.pair-item.result in
    let here : take (i + 1) xs ≡ take i xs ++ x ∷ [] =
    take_more xs i x (omega arith) ∙ ap (λ y. take i xs ++ y ∷ []) (sym c.pair-item.is) in
    copied_on {B = Item × Item} (λ p. (view p.0, view p.1)) xs c.loop-pair.copies.items _ i x
    (c.in_ok-key.key, c.in_ok-value.value) here c.in_ok-push.ensures.items
    (ap (λ v. (v, view c.in_ok-value.value)) c.in_ok-key.ensures ∙ ap (λ v. (view x.0, v)) c.in_ok-value.ensures)
    c.loop-pair.invariant
