-- The box of a store: how long it is, and what is read of it.
use Rattle.std.proofs.Common.{◌≡◌, ℕ, ◌+◌, ◌^◌, ◌≤◌, true, ◌&&◌, List, length, leb, refl, arith}
use Rattle.std.proofs.lemmas.Bool.{and_from, le-leb, lt-ltb}
use Rattle.std.proofs.lemmas.List.{take_all}
use Rattle.c2_spec.specs.Bmff.Boxes.{IsSizedBox, box_len}
use Rattle.c2_spec.specs.Bmff.Store.{content_of, has_store_box, is_c2pa_box, is_store_box, most_store_bytes, store_in}
use Rattle.c2_spec.specs.Bmff.Writing.{IsBoxStore, c2pa_box, c2pa_frame_len, c2pa_payload, is_left_out}
use Rattle.c2_spec.specs.Jumbf.Faults.{has_head, told_total}

-- what stands after its header
pub payload_len : (store : List ℕ) → length (c2pa_payload store) ≡ 37 + length store
payload_len store = omega arith

-- the length of the box of a store
pub frame_len : (store : List ℕ) → box_len (c2pa_box store) ≡ c2pa_frame_len + length store
frame_len store = omega (arith, payload_len store)

-- the box of a store says its size, where the store isn't too large
pub sized_frame : (store : List ℕ) → length store ≤ most_store_bytes → IsSizedBox (c2pa_box store)
sized_frame store h = record {
  is_box = record {
    kind = refl;
    fits = lt-ltb (box_len (c2pa_box store)) (2 ^ 32) (omega (arith, frame_len store, h));
    user_type = λ _. omega (arith, payload_len store);
  };
  sized = refl;
}

-- the box of a store is a box that says its size
pub is_frame : (store : List ℕ) → IsBoxStore store → IsSizedBox (c2pa_box store)
is_frame store h = sized_frame store h.small

-- the box of a store is one for a store
pub holds_store : (store : List ℕ) → is_store_box (c2pa_box store) ≡ true
unfolding is_store_box is_c2pa_box
holds_store store = refl

-- the store is whole in it
pub whole_store : (store : List ℕ) → IsBoxStore store → has_store_box (content_of (c2pa_box store)) ≡ true
whole_store store h =
    and_from (leb 21 (length (content_of (c2pa_box store))) && has_head store) (leb (told_total store) (length store))
    (and_from (leb 21 (length (content_of (c2pa_box store)))) (has_head store) (le-leb 21 (length (content_of (c2pa_box store))) (omega arith)) h.head)
    (le-leb (told_total store) (length store) (omega (arith, h.whole)))

-- the store of its box is read as it is
pub same_store : (store : List ℕ) → IsBoxStore store → store_in (content_of (c2pa_box store)) ≡ store
same_store store h = take_all (told_total store) store (omega (arith, h.whole))

-- a new BMFF hash leaves it out
pub frame_out : (store : List ℕ) → is_left_out (c2pa_box store) ≡ true
frame_out store = refl
