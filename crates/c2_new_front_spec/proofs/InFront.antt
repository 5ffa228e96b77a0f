-- The box of a store put in after the first root box.
use Rattle.std.proofs.Common.{◌≡◌, ℕ, ◌+◌, ◌≤◌, Bool, true, false, cond, List, [], ◌∷◌, ◌++◌, length, take, drop, Option, Some, None, refl, sym, ap, ap₂, ◌∙◌, arith, append-nil, length-append, bytes_eq}
use Rattle.std.proofs.lemmas.List.{take_at, drop_at, drop-drop}
use Rattle.std.specs.List.{flat_map}
use Rattle.std.specs.Int.{w64, to_be_bytes}
use Rattle.c2_spec.specs.Bmff.Boxes.{AreBoxForms, Box, HasRoots, IsBox, IsSizedBox, begins_bmff, box_bytes, box_len, ftyp_kind, is_to_end}
use Rattle.c2_spec.specs.Bmff.Paths.{placed_from}
use Rattle.c2_spec.specs.Bmff.Writing.{built_part, c2pa_box, c2pa_frame_len, is_left_out}
use Rattle.c2_spec.specs.PutIn.{put_in, taken_out}
use Rattle.c2_spec.proofs.BmffOneList.{first_box, other_boxes}
use Rattle.c2_spec.proofs.BmffSizes.{bytes_size}
use Rattle.c2_new_front_spec.specs.InFront.{FrontHasRoots, OnlyOthersAreCovered, StoreIsPutInFront, front_place, put_in_front}
use Rattle.c2_bmff_insert_spec.proofs.Frames.{frame_len, holds_store, same_store, sized_frame, whole_store}
use Rattle.c2_bmff_insert_spec.proofs.Placing.{begins_with}
use Rattle.c2_lemmas.proofs.Bools.{or_middle}
use Rattle.c2_new_file_spec.proofs.Media.{box_two}
use Rattle.c2_spec.proofs.BmffShared.{c2pa_box_length}

-- ---- the first root box

-- a file has one
none_first : {P : Type 0} (file : List ℕ) → HasRoots file [] → P
none_first {P} file h = absurd (let bad = sym h.begins ∙ ap begins_bmff h.bytes in cc (bad))

-- the first root box of a BMFF file has the type of a file type box
pub first_type : (file : List ℕ) (b : Box) (bs : List Box) → HasRoots file (b ∷ bs) → bytes_eq b.kind ftyp_kind ≡ true
first_type file b bs h =
    sym (begins_with b (flat_map box_bytes bs) (first_box b bs h.forms)) ∙ ap begins_bmff (sym h.bytes) ∙ h.begins

-- where the first root box isn't open, it says its size
first_sized : (t : Bool) → cond {A = Option ℕ} t (Some 0) None ≡ None → t ≡ false
first_sized true h = absurd (cc (h))
first_sized false h = refl

-- a box that says its size comes before boxes in their forms
forms_more : (b : Box) (bs : List Box) → IsSizedBox b → AreBoxForms bs → AreBoxForms (b ∷ bs)
forms_more b [] s f = s.is_box
forms_more b (c ∷ cs) s f = (s, f)

-- the place in front is where the first root box ends
place_is : (b : Box) (bs : List Box) → front_place (b ∷ bs) ≡ length (box_bytes b)
place_is b bs = ap length (append-nil (box_bytes b))

-- in the file
pub place_in : (file : List ℕ) (roots : List Box) → HasRoots file roots → front_place roots ≤ length file
place_in file [] h = none_first file h
place_in file (b ∷ bs) h =
    omega (arith, place_is b bs, ap length h.bytes, length-append (box_bytes b) (flat_map box_bytes bs))

-- ---- bytes

-- a piece put in between two parts
put_between : (front piece back : List ℕ) (n : ℕ) → length front ≡ n
    → put_in n piece (front ++ back) ≡ front ++ (piece ++ back)
put_between front piece back n e =
    ap₂ (λ (f r : List ℕ). f ++ (piece ++ r)) (take_at front back n e) (drop_at front back n e)

-- taken out again
left_between : (front piece back : List ℕ) (n m : ℕ) → length front ≡ n → length piece ≡ m
    → taken_out n m (front ++ (piece ++ back)) ≡ front ++ back
left_between front piece back n m e h =
    let whole : List ℕ = front ++ (piece ++ back) in
    ap₂ (λ (f r : List ℕ). f ++ r) (take_at front (piece ++ back) n e)
    (sym (drop-drop m n whole) ∙ ap (drop m) (drop_at front (piece ++ back) n e) ∙ drop_at piece back m h)

-- ---- the file

-- the bytes of the new file: those of the first root box, the store's box, and the others
file_is : (base : List ℕ) (b : Box) (bs : List Box) (store : List ℕ) → HasRoots base (b ∷ bs)
    → put_in_front base (b ∷ bs) store ≡ box_bytes b ++ (box_bytes (c2pa_box store) ++ flat_map box_bytes bs)
file_is base b bs store h =
    ap (λ (f : List ℕ). put_in_front f (b ∷ bs) store) h.bytes
    ∙ put_between (box_bytes b) (box_bytes (c2pa_box store)) (flat_map box_bytes bs) (front_place (b ∷ bs))
    (sym (place_is b bs))

-- how many they are
file_size : (base : List ℕ) (b : Box) (bs : List Box) (store : List ℕ) → HasRoots base (b ∷ bs)
    → length (put_in_front base (b ∷ bs) store) ≡ length base + (c2pa_frame_len + length store)
file_size base b bs store h =
    let front : List ℕ = box_bytes b in
    let back : List ℕ = flat_map box_bytes bs in
    let piece : List ℕ = box_bytes (c2pa_box store) in
    omega
    (arith, ap length (file_is base b bs store h), length-append front (piece ++ back), length-append piece back, c2pa_box_length store, ap length h.bytes, length-append front back)

-- the root boxes of the new file
pub front_roots : FrontHasRoots
front_roots base [] store room = none_first base room.has_roots
front_roots base (b ∷ bs) store room =
    let first : IsBox b = first_box b bs room.has_roots.forms in
    let others : List ℕ = box_bytes (c2pa_box store) ++ flat_map box_bytes bs in
    let file : put_in_front base (b ∷ bs) store ≡ box_bytes b ++ others = file_is base b bs store room.has_roots in
    record {
      fits = omega (arith, file_size base b bs store room.has_roots, room.fits);
      begins = ap begins_bmff file ∙ begins_with b others first ∙ first_type base b bs room.has_roots;
      bytes = file;
      forms = (
        record { is_box = first; sized = first_sized (is_to_end b.form) room.closed },
        forms_more (c2pa_box store) bs
            (sized_frame store room.small) (other_boxes b bs room.has_roots.forms),
      );
      few = omega (arith, room.few);
    }

-- the store's box comes after the first of them, and holds the store
pub front_found : StoreIsPutInFront
front_found base [] store can = none_first base can.room.has_roots
front_found base (b ∷ bs) store can =
    let front : List ℕ = box_bytes b in
    let back : List ℕ = flat_map box_bytes bs in
    let piece : List ℕ = box_bytes (c2pa_box store) in
    let has : HasRoots base (b ∷ bs) = can.room.has_roots in
    let file : put_in_front base (b ∷ bs) store ≡ front ++ (piece ++ back) = file_is base b bs store has in
    record {
      has_roots = front_roots base (b ∷ bs) store can.room;
      holds = record {
        before = b ∷ [];
        holder = c2pa_box store;
        after = bs;
        split = refl;
        is_holder = holds_store store;
        whole = whole_store store can.is_store;
        bytes = sym (same_store store can.is_store);
        small = can.is_store.small;
        others_before = (can.others.0, tt);
        others_after = can.others.1;
        from = refl;
        for = sym (frame_len store);
      };
      left =
          ap (taken_out (front_place (b ∷ bs)) (c2pa_frame_len + length store)) file
          ∙ left_between front piece back (front_place (b ∷ bs)) (c2pa_frame_len + length store) (sym (place_is b bs)) (c2pa_box_length store) ∙ sym has.bytes;
      size = file_size base b bs store has;
      starts = ap (take 2) file ∙ box_two b (piece ++ back) back ∙ ap (take 2) (sym has.bytes);
    }

-- ---- what is covered

-- what the exclusions leave is told by the length of the store
pub front_told : OnlyOthersAreCovered
front_told base [] store h = none_first base h
front_told base (b ∷ bs) store h =
    let out : is_left_out b ≡ true = or_middle _ (bytes_eq b.kind ftyp_kind) _ (first_type base b bs h) in
    let size : length (box_bytes b) ≡ box_len b = bytes_size b (first_box b bs h.forms) in
    let next : 0 + box_len b + box_len (c2pa_box store) ≡ front_place (b ∷ bs) + (c2pa_frame_len + length store) =
    omega (arith, place_is b bs, size, frame_len store) in
    let more : List ℕ =
    built_part (record { at = 0 + box_len b; box = c2pa_box store }) ++ flat_map built_part
    (placed_from (0 + box_len b + box_len (c2pa_box store)) bs) in
    ap (λ (t : Bool). cond t [] (to_be_bytes w64 0 ++ box_bytes b) ++ more) out
    ∙ ap (λ n. flat_map built_part (placed_from n bs)) next
