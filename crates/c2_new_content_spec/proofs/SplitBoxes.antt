-- The box of a store put in between root boxes.
use Rattle.std.proofs.Common.{◌≡◌, ℕ, ◌+◌, ◌<◌, true, List, [], ◌∷◌, ◌++◌, length, take, refl, sym, ap, ◌∙◌, subst, arith}
use Rattle.std.specs.List.{flat_map, AllByRecursion}
use Rattle.c2_spec.specs.Bmff.Boxes.{AreBoxForms, Box, HasRoots, IsSizedBox, begins_bmff, box_bytes, boxes_len}
use Rattle.c2_spec.specs.Bmff.Store.{HasBmffStore, IsBmffLocated, is_other_box}
use Rattle.c2_spec.specs.Bmff.Writing.{c2pa_box, c2pa_frame_len}
use Rattle.c2_spec.specs.Container.{IsLocated, is_bmff}
use Rattle.c2_spec.specs.Jpeg.Store as jpeg
use Rattle.c2_spec.specs.Located as located
use Rattle.c2_spec.specs.PutIn.{put_in, taken_out}
use Rattle.c2_spec.proofs.BmffOneList.{first_box}
use Rattle.c2_new_content_spec.specs.Holding.{BoxIsAtSplit, HoldsAt}
use Rattle.c2_new_content_spec.specs.Splits.{AreClosed, CanHold, HasRoomFor, of_boxes, split_file}
use Rattle.std.specs.Bool.{MatchBool}
use Rattle.c2_bmff_insert_spec.proofs.Frames.{frame_len, holds_store, same_store, sized_frame, whole_store}
use Rattle.c2_bmff_insert_spec.proofs.Placing.{begins_list, bytes_more, first_is, forms_append, left_is, one_more, put_is}
use Rattle.c2_lemmas.proofs.Each.{each_back, each_front}
use Rattle.c2_new_file_spec.proofs.Media.{box_two}
use Rattle.c2_spec.proofs.BmffShared.{c2pa_box_length}
use Rattle.c2_spec.proofs.Containers.{same_media}

-- ---- boxes before a place and behind it

-- the boxes before the place say their sizes
front_sized : (xs ys : List Box) → AreBoxForms (xs ++ ys) → AreClosed xs → AllByRecursion IsSizedBox xs
front_sized [] ys f c = tt
front_sized (x ∷ []) [] f c = (record { is_box = f; sized = c.0 }, tt)
front_sized (x ∷ []) (y ∷ ys) f c = (f.0, tt)
front_sized (x ∷ z ∷ zs) ys f c = (f.0, front_sized (z ∷ zs) ys f.1 c.1)

-- the boxes behind the place are in their forms
back_forms : (xs ys : List Box) → AreBoxForms (xs ++ ys) → AreBoxForms ys
back_forms [] ys f = f
back_forms (x ∷ []) [] f = tt
back_forms (x ∷ []) (y ∷ ys) f = f.1
back_forms (x ∷ z ∷ zs) ys f = back_forms (z ∷ zs) ys f.1

-- where some box stands before it, a BMFF file begins so, whatever comes then
begins_at : (base : List ℕ) (xs ys zs : List Box) → HasRoots base (xs ++ ys) → 0 < length xs
    → begins_bmff (flat_map box_bytes (xs ++ zs)) ≡ true
begins_at base [] ys zs h some = absurd (omega (arith, some))
begins_at base (x ∷ xs) ys zs h some =
    begins_list (x ∷ (xs ++ zs)) x (xs ++ zs) refl (first_box x (xs ++ ys) h.forms) (first_is base x (xs ++ ys) h)

-- files with one first box begin with the same two bytes
starts_at : (xs ys zs : List Box) → 0 < length xs
    → take 2 (flat_map box_bytes (xs ++ ys)) ≡ take 2 (flat_map box_bytes (xs ++ zs))
starts_at [] ys zs some = absurd (omega (arith, some))
starts_at (x ∷ xs) ys zs some = box_two x (flat_map box_bytes (xs ++ ys)) (flat_map box_bytes (xs ++ zs))

-- ---- the file

-- the bytes of the file
pub file_is : (base : List ℕ) (xs ys : List Box) (bytes : List ℕ) → HasRoots base (xs ++ ys)
    → split_file base (of_boxes xs ys) (box_bytes (c2pa_box bytes)) ≡ flat_map box_bytes (xs ++ c2pa_box bytes ∷ ys)
file_is base xs ys bytes h =
    ap (λ (f : List ℕ). put_in (boxes_len xs) (box_bytes (c2pa_box bytes)) f) h.bytes ∙ put_is xs ys (c2pa_box bytes)

-- how many they are
pub file_size : (base : List ℕ) (xs ys : List Box) (bytes : List ℕ) → HasRoots base (xs ++ ys)
    → length (split_file base (of_boxes xs ys) (box_bytes (c2pa_box bytes))) ≡ length base + (c2pa_frame_len + length bytes)
file_size base xs ys bytes h =
    omega
    (arith, ap length (file_is base xs ys bytes h), bytes_more xs ys (c2pa_box bytes), c2pa_box_length bytes, ap length h.bytes)

-- the root boxes of the file
pub box_at : BoxIsAtSplit
box_at base xs ys bytes room =
    let has : HasRoots base (xs ++ ys) = room.split.1 in
    let new : Box = c2pa_box bytes in
    let file : split_file base (of_boxes xs ys) (box_bytes new) ≡ flat_map box_bytes (xs ++ new ∷ ys) =
    file_is base xs ys bytes has in
    record {
      fits = omega (arith, file_size base xs ys bytes has, room.fits);
      begins = ap begins_bmff file ∙ begins_at base xs ys (new ∷ ys) has room.split.2;
      bytes = file;
      forms = forms_append xs (new ∷ ys) (front_sized xs ys has.forms room.room.0)
          (forms_append (new ∷ []) ys (sized_frame bytes (omega (arith, room.small)), tt) (back_forms xs ys has.forms));
      few = omega (arith, room.room.1, one_more xs ys new);
    }

-- the file is a BMFF file
pub file_media : (base : List ℕ) (xs ys : List Box) (bytes : List ℕ) → HasRoomFor base (of_boxes xs ys) (length bytes)
    → is_bmff (split_file base (of_boxes xs ys) (box_bytes (c2pa_box bytes))) ≡ true
file_media base xs ys bytes room =
    let has : HasRoots base (xs ++ ys) = room.split.1 in
    let file : List ℕ = split_file base (of_boxes xs ys) (box_bytes (c2pa_box bytes)) in
    same_media file base
    (ap (take 2) (file_is base xs ys bytes has) ∙ starts_at xs (c2pa_box bytes ∷ ys) ys room.split.2 ∙ ap (take 2) (sym has.bytes))
    room.split.0 (box_at base xs ys bytes room).begins

-- ---- the store in it

-- the store's box is among the root boxes
store_at : (base : List ℕ) (xs ys : List Box) (store : List ℕ) → CanHold base (of_boxes xs ys) store
    → HasBmffStore (split_file base (of_boxes xs ys) (box_bytes (c2pa_box store))) (boxes_len xs) (c2pa_frame_len + length store) store
store_at base xs ys store can = record {
  roots = xs ++ c2pa_box store ∷ ys;
  has_roots = box_at base xs ys store can.room;
  holds = record {
    before = xs;
    holder = c2pa_box store;
    after = ys;
    split = refl;
    is_holder = holds_store store;
    whole = whole_store store can.stored;
    bytes = sym (same_store store can.stored);
    small = can.stored.small;
    others_before = each_front (λ (b : Box). is_other_box b ≡ true) xs ys can.free;
    others_after = each_back (λ (b : Box). is_other_box b ≡ true) xs ys can.free;
    from = refl;
    for = sym (frame_len store);
  };
}

-- the store of a BMFF file is the store of the file
located_at : (file : List ℕ) (start len : ℕ) (store : List ℕ) → is_bmff file ≡ true → HasBmffStore file start len store
    → IsLocated file (located.here start len store)
located_at file start len store e h =
    subst
    (λ b. MatchBool b (IsBmffLocated file (located.here start len store)) (jpeg.IsLocated file (located.here start len store)))
    (sym e) h

-- without it the file is what it was
pub boxes_hold : (base : List ℕ) (xs ys : List Box) (store : List ℕ) → CanHold base (of_boxes xs ys) store
    → HoldsAt base (of_boxes xs ys) store (split_file base (of_boxes xs ys) (box_bytes (c2pa_box store)))
boxes_hold base xs ys store can =
    let has : HasRoots base (xs ++ ys) = can.room.split.1 in
    let file : List ℕ = split_file base (of_boxes xs ys) (box_bytes (c2pa_box store)) in
    let len : ℕ = c2pa_frame_len + length store in
    record {
      located =
          located_at file (boxes_len xs) len store (file_media base xs ys store can.room)
          (store_at base xs ys store can);
      left = ap (taken_out (boxes_len xs) len) (file_is base xs ys store has)
          ∙ left_is xs ys (c2pa_box store) len (c2pa_box_length store) ∙ sym has.bytes;
      size = file_size base xs ys store has;
    }
