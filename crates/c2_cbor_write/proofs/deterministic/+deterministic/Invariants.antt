use Rattle.std.proofs.Common.{◌≡◌, ◌↔◌, ◌++◌, true, drop, take, map}
use Rattle.c2_spec.specs.Cbor.View.{items_view}
use Rattle.c2_spec.specs.Cbor.Deterministic.{preferred_items, sorted_items}
use Rattle.c2_spec.specs.Cbor.Plain.{ItemsHavePlainKeys}
use Rattle.c2_cbor_write.specs.Entries.{entry_bytes, entry_of, det_keys, det_values, KeysPlain, ValuesPlain}
use Rattle.c2_cbor_spec.specs.Marks.{marks, StandIn}
use Rattle.c2_cbor_write.proofs.deterministic.+deterministic.Given as goal

abbrev pub invariant-push_deterministic_items-loop-item : goal.invariant-push_deterministic_items-loop-item
invariant-push_deterministic_items-loop-item l =
    (l.out.items ++ preferred_items (sorted_items (items_view (drop l.item-index l.items))) ≡ l.initial.out.items ++ preferred_items (sorted_items (items_view l.items)))
    × (((l.plain ≡ true) × ItemsHavePlainKeys (items_view (drop l.item-index l.items))) ↔ ItemsHavePlainKeys (items_view l.items))

abbrev pub invariant-deterministic_keys-loop-i : goal.invariant-deterministic_keys-loop-i
invariant-deterministic_keys-loop-i l =
    StandIn (det_keys (take l.i l.pairs)) l.bytes.items l.lens.items
    × (((l.plain ≡ true) × KeysPlain (drop l.i l.pairs)) ↔ KeysPlain l.pairs)

abbrev pub invariant-push_sorted-loop-i : goal.invariant-push_sorted-loop-i
invariant-push_sorted-loop-i l =
    (l.out.items ++ entry_bytes (map (entry_of (det_values l.pairs)) (marks (drop l.i l.keys))) ≡ l.initial.out.items ++ entry_bytes (map (entry_of (det_values l.pairs)) (marks l.keys)))
    × (((l.plain ≡ true) × ValuesPlain l.pairs (marks (drop l.i l.keys))) ↔ ValuesPlain l.pairs (marks l.keys))
