use Rattle.std.proofs.Common.{rules, ◌≡◌, ◌↔◌, ◌<◌, true, ◌∷◌, ◌++◌, ◌+◌, [], length, get_or, take, drop, sym, subst, ap, ◌∙◌, arith}
use Rattle.std.proofs.lemmas.List.{take_more, drop_more, map_push}
use Rattle.c2_spec.specs.Cbor.View.{view, items_view}
use Rattle.c2_spec.specs.Cbor.Deterministic.{deterministic, preferred_items, sorted_items}
use Rattle.c2_spec.specs.Cbor.Plain.{ItemsHavePlainKeys}
use Rattle.c2_cbor_write.specs.Entries.{det_keys, det_values, KeysPlain, ValuesPlain}
use Rattle.c2_cbor_spec.specs.Marks.{marks}
use Rattle.c2_cbor_spec.proofs.Sorting.{deterministic-List, deterministic-Map, deterministic-Tag}
use Rattle.c2_cbor_write.proofs.Entries.{entry_on, det_written, keys_are}
use Rattle.c2_cbor_write.proofs.Grown.{grown_further, written_on}
use Rattle.c2_cbor_spec.proofs.Marks.{Lent, spelled_on, stand_moved}
use Rattle.c2_cbor_write.proofs.PlainKeys.{plain_pairs, fewer_left, plain-List, plain-Map, plain-Tag}
use Rattle.c2_cbor_write.proofs.deterministic.+deterministic.Goals as goal

pub push_deterministic-returns-in_ok-push_head-in-List-clause-bytes : goal.push_deterministic-returns-in_ok-push_head-in-List-clause-bytes
push_deterministic-returns-in_ok-push_head-in-List-clause-bytes t c =
    grown_further _ _ _ _ _ _ _ c.in_ok-push_head-in-List.ensures c.push_deterministic_items.ensures.bytes
    (ap (λ v. deterministic (view v)) c.in-List.is ∙ deterministic-List c.in-List.items _ _ c.len.ensures c.deref.ensures.value)

pub push_deterministic-returns-in_ok-push_head-in-List-clause-plain : goal.push_deterministic-returns-in_ok-push_head-in-List-clause-plain
push_deterministic-returns-in_ok-push_head-in-List-clause-plain t c =
    plain-List _ _ c.in-List.items _ c.in-List.is c.deref.ensures.value c.push_deterministic_items.ensures.plain

pub push_deterministic-returns-in_ok-push_head-in-Map-clause-bytes : goal.push_deterministic-returns-in_ok-push_head-in-Map-clause-bytes
push_deterministic-returns-in_ok-push_head-in-Map-clause-bytes t c =
    grown_further _ _ _ _ _ _ _ c.in_ok-push_head-in-Map.ensures c.push_deterministic_pairs.ensures.bytes
    (ap (λ v. deterministic (view v)) c.in-Map.is ∙ deterministic-Map c.in-Map.pairs _ _ c.len-in-Map.ensures c.deref-in-Map.ensures.value)

pub push_deterministic-returns-in_ok-push_head-in-Map-clause-plain : goal.push_deterministic-returns-in_ok-push_head-in-Map-clause-plain
push_deterministic-returns-in_ok-push_head-in-Map-clause-plain t c =
    plain-Map _ _ c.in-Map.pairs _ c.in-Map.is c.deref-in-Map.ensures.value c.push_deterministic_pairs.ensures.plain

pub push_deterministic-returns-in_ok-push_head-in-Tag-clause-bytes : goal.push_deterministic-returns-in_ok-push_head-in-Tag-clause-bytes
push_deterministic-returns-in_ok-push_head-in-Tag-clause-bytes t c =
    grown_further _ _ _ _ _ _ _ c.in_ok-push_head-in-Tag.ensures c.push_deterministic.ensures.bytes
    (ap (λ v. deterministic (view v)) c.in-Tag.is ∙ deterministic-Tag c.in-Tag.n c.in-Tag.inner _ c.deref-in-Tag.ensures)

pub push_deterministic-returns-in_ok-push_head-in-Tag-clause-plain : goal.push_deterministic-returns-in_ok-push_head-in-Tag-clause-plain
push_deterministic-returns-in_ok-push_head-in-Tag-clause-plain t c =
    plain-Tag _ _ c.in-Tag.n c.in-Tag.inner _ c.in-Tag.is c.deref-in-Tag.ensures c.push_deterministic.ensures.plain

pub push_deterministic_items-loop-item-preserved : goal.push_deterministic_items-loop-item-preserved
push_deterministic_items-loop-item-preserved t c =
    let xs = c.args.items.now in
    let i = c.loop-item.item-index in
    let x = c.item-item.result in
    let left : drop i xs ≡ x ∷ drop (i + 1) xs =
    drop_more xs i x (omega arith) ∙ ap (λ y. y ∷ drop (i + 1) xs) (sym c.item-item.is) in (
      written_on _ _ _ _ _ _ c.in_ok-this.ensures.bytes
          (ap (λ ys. preferred_items (sorted_items (items_view ys))) left) c.loop-item.invariant.0,
      fewer_left _ c.loop-item.plain _ _ _ (ItemsHavePlainKeys (items_view (drop (i + 1) xs))) (subst (λ ys. ((c.loop-item.plain ≡ true) × ItemsHavePlainKeys (items_view ys)) ↔ ItemsHavePlainKeys (items_view xs)) left c.loop-item.invariant.1) c.in_ok-this.ensures.plain c.both-plain.ensures,
    )

pub push_sorted-loop-i-preserved : goal.push_sorted-loop-i-preserved
push_sorted-loop-i-preserved t c =
    let ps = c.args.pairs.now in
    let ks = c.args.keys.now in
    let i = c.loop-i.i in
    let d : Lent = (0, record { ref_ptr = (0, 0); now = [] }, 0) in
    let lt : i < length ks = omega arith in (
      entry_on (det_values ps) ks i d _ _ _ _ lt c.in_ok-push_sorted_key.ensures c.in_ok-this.ensures.bytes
          c.loop-i.invariant.0,
      fewer_left _ c.loop-i.plain _ _ _ (ValuesPlain ps (marks (drop (i + 1) ks))) (subst (λ ms. ((c.loop-i.plain ≡ true) × ValuesPlain ps (marks ms)) ↔ ValuesPlain ps (marks ks)) (drop_more ks i d lt) c.loop-i.invariant.1) c.in_ok-this.ensures.plain c.both-plain.ensures,
    )

pub deterministic_keys-loop-i-preserved : goal.deterministic_keys-loop-i-preserved
deterministic_keys-loop-i-preserved t c =
    let xs = c.args.pairs.now in
    let i = c.loop-i.i in
    let x = get_or xs i c.index-pairs-i.result in
    let here : take (i + 1) xs ≡ take i xs ++ x ∷ [] = take_more xs i c.index-pairs-i.result (omega arith) in
    let left : drop i xs ≡ x ∷ drop (i + 1) xs = drop_more xs i c.index-pairs-i.result (omega arith) in (
      spelled_on (det_keys (take i xs)) (det_keys (take (i + 1) xs)) (deterministic (view x.0))
          c.loop-i.bytes.items _ c.loop-i.lens.items _ _
          (ap det_keys here ∙ map_push (λ p. deterministic (view p.0)) (take i xs) x)
          c.in_ok-this.ensures.bytes c.in_ok-push.ensures.items (omega arith) c.loop-i.invariant.0,
      fewer_left _ c.loop-i.plain _ _ _ (KeysPlain (drop (i + 1) xs)) (subst (λ ps. ((c.loop-i.plain ≡ true) × KeysPlain ps) ↔ KeysPlain xs) left c.loop-i.invariant.1) c.in_ok-this.ensures.plain c.both-plain.ensures,
    )

pub push_deterministic_pairs-returns-clause-bytes : goal.push_deterministic_pairs-returns-clause-bytes
push_deterministic_pairs-returns-clause-bytes t c =
    let order =
    c.in_ok-keys.ensures (det_keys c.args.pairs.now)
    (stand_moved _ _ _ _ _ c.as_slice.ensures.value c.as_slice-2.ensures.value c.in_ok-bytes.ensures.keys) in
    det_written c.args.pairs.now c.in_ok-keys.keys.items _ _ _ order c.as_slice-3.ensures.value
    c.in_ok-values_plain.ensures.bytes

pub push_deterministic_pairs-returns-clause-plain : goal.push_deterministic_pairs-returns-clause-plain
push_deterministic_pairs-returns-clause-plain t c =
    let order =
    c.in_ok-keys.ensures (det_keys c.args.pairs.now)
    (stand_moved _ _ _ _ _ c.as_slice.ensures.value c.as_slice-2.ensures.value c.in_ok-bytes.ensures.keys) in
    plain_pairs c.args.pairs.now c.in_ok-keys.keys.items _ _ _ _ _ _ _ order c.as_slice-4.ensures.value
    c.as_slice-3.ensures.value
    c.all_differ-differ.ensures c.in_ok-bytes.ensures.plain c.in_ok-values_plain.ensures.plain c.both-parts.ensures
    c.both.ensures

pub push_deterministic_pairs-push_sorted-requires : goal.push_deterministic_pairs-push_sorted-requires
push_deterministic_pairs-push_sorted-requires t c =
    let order =
    c.in_ok-keys.ensures (det_keys c.args.pairs.now)
    (stand_moved _ _ _ _ _ c.as_slice.ensures.value c.as_slice-2.ensures.value c.in_ok-bytes.ensures.keys) in
    (search rules, keys_are c.args.pairs.now c.in_ok-keys.keys.items _ order c.as_slice-3.ensures.value)
