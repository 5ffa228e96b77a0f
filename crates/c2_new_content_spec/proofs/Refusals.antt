-- What is refused at a split, and that there is a file where nothing is.
use Rattle.std.proofs.Common.{◌≡◌, ℕ, ◌+◌, Bool, true, false, cond, List, [], ◌∷◌, ◌++◌, length, Some, None, refl, ap}
use Rattle.std.specs.Prelude.{nat_lt, nat_le}
use Rattle.std.specs.List.{flat_map}
use Rattle.std.proofs.lemmas.Bool.{le-ltb, leb-false, lt-leb, ltb-false}
use Rattle.c2_lemmas.proofs.Lists.{both_none, none_both}
use Rattle.c2_base.specs.declared.limits.TheConstants.{FILE_LEN_LIMIT, MAX_ROOT_BOXES, MAX_STORE_LEN}
use Rattle.c2_spec.specs.Bmff.Boxes.{Box, box_len, is_to_end}
use Rattle.c2_spec.specs.Bmff.Paths.{placed_from}
use Rattle.c2_spec.specs.Jumbf.Tree.{tree_bytes}
use Rattle.c2_new_file_spec.specs.Store.{new_alg}
use Rattle.c2_new_content_spec.specs.Contents.{content_size, content_store}
use Rattle.c2_new_content_spec.proofs.Contents.{content_meets}
use Rattle.c2_new_content_spec.proofs.Holding.{piece_there}
use Rattle.c2_new_content_spec.specs.Refusals.{RoomIsUnrefused, SplitRefusal, UnrefusedHasRoom, UnrefusedIsBuilt, box_refusals, count_refusals, file_too_large, open_box, place_refusals, store_too_large, too_many_boxes}
use Rattle.c2_new_content_spec.specs.Splits.{AreClosed, HasRoom, HasRoomFor, Split, of_boxes, of_segments, split_file, split_len}

-- ---- lists

-- a test that passes
test_false : (b : Bool) (r : SplitRefusal) → cond b (r ∷ []) [] ≡ [] → b ≡ false
test_false true r e = absurd (cc (e))
test_false false r e = refl

-- a test that passes refuses nothing
test_none : (b : Bool) (r : SplitRefusal) → b ≡ false → cond b (r ∷ []) [] ≡ []
test_none b r e = ap (λ (t : Bool). cond t (r ∷ []) []) e

-- ---- the place

-- boxes of which none is refused are closed
open_none : (at : ℕ) (bs : List Box) → flat_map box_refusals (placed_from at bs) ≡ [] → AreClosed bs
open_none at [] e = tt
open_none at (b ∷ bs) e =
    let both =
    both_none (box_refusals (record { at = at; box = b }))
    (flat_map box_refusals (placed_from (at + box_len b) bs)) e in
    (test_false (is_to_end b.form) (open_box at) both.0, open_none (at + box_len b) bs both.1)

-- none of the closed boxes is refused
closed_none : (at : ℕ) (bs : List Box) → AreClosed bs → flat_map box_refusals (placed_from at bs) ≡ []
closed_none at [] c = refl
closed_none at (b ∷ bs) c =
    none_both (box_refusals (record { at = at; box = b })) (flat_map box_refusals (placed_from (at + box_len b) bs))
    (test_none (is_to_end b.form) (open_box at) c.0) (closed_none (at + box_len b) bs c.1)

-- where nothing is refused of the place, something can be put there
room_of : (s : Split) → place_refusals s ≡ [] → count_refusals s ≡ [] → HasRoom s
room_of (of_segments front back None) e f = absurd (cc (e))
room_of (of_segments front back (Some en)) e f = (en, refl)
room_of (of_boxes front back) e f = (
  open_none 0 front e,
  leb-false MAX_ROOT_BOXES (length (front ++ back))
      (test_false (nat_le MAX_ROOT_BOXES (length (front ++ back))) too_many_boxes f),
)

-- where something can be put, nothing is refused of the place
place_none : (s : Split) → HasRoom s → place_refusals s ≡ []
place_none (of_segments front back None) h = absurd (let bad = h.1 in cc (bad))
place_none (of_segments front back (Some en)) h = refl
place_none (of_boxes front back) h = closed_none 0 front h.0

-- where something can be put, nothing is refused of the number of boxes
count_none : (s : Split) → HasRoom s → count_refusals s ≡ []
count_none (of_segments front back number) h = refl
count_none (of_boxes front back) h =
    test_none (nat_le MAX_ROOT_BOXES (length (front ++ back))) too_many_boxes
    (lt-leb MAX_ROOT_BOXES (length (front ++ back)) h.1)

-- ---- both ways

-- where nothing is refused, there is room
pub has_room : UnrefusedHasRoom
has_room base s size is e =
    let file : ℕ = length base + split_len s size in
    let places = both_none (place_refusals s) _ e in
    let stores = both_none (cond (nat_lt MAX_STORE_LEN size) (store_too_large size ∷ []) []) _ places.1 in
    let files = both_none (cond (nat_le FILE_LEN_LIMIT file) (file_too_large file ∷ []) []) _ stores.1 in
    record {
      split = is;
      room = room_of s places.0 files.1;
      small = ltb-false MAX_STORE_LEN size (test_false (nat_lt MAX_STORE_LEN size) (store_too_large size) stores.0);
      fits = leb-false FILE_LEN_LIMIT file (test_false (nat_le FILE_LEN_LIMIT file) (file_too_large file) files.0);
    }

-- where there is room, nothing is refused
pub room_unrefused : RoomIsUnrefused
room_unrefused base s size h =
    let file : ℕ = length base + split_len s size in
    none_both (place_refusals s) _ (place_none s h.room)
    (none_both (cond (nat_lt MAX_STORE_LEN size) (store_too_large size ∷ []) []) _
    (test_none (nat_lt MAX_STORE_LEN size) (store_too_large size) (le-ltb MAX_STORE_LEN size h.small))
    (none_both (cond (nat_le FILE_LEN_LIMIT file) (file_too_large file ∷ []) []) _
    (test_none (nat_le FILE_LEN_LIMIT file) (file_too_large file) (lt-leb FILE_LEN_LIMIT file h.fits))
    (count_none s h.room)))

-- ---- the file

-- where nothing is refused, there is a file, which meets the rules
pub unrefused_built : UnrefusedIsBuilt
unrefused_built hash c message base s parts older digests content is free e =
    let room : HasRoomFor base s (content_size s c (length message)) =
    has_room base s (content_size s c (length message)) is e in
    let piece = piece_there s (tree_bytes (content_store (hash (new_alg c.definition)) c message base s)) room.room in (
      split_file base s piece.0,
      record {
        piece = piece.0;
        is_piece = piece.1;
        put = refl;
        meets =
            content_meets hash c message base piece.0 s parts older digests content (record { room = room; free = free })
            piece.1;
      },
    )
