-- What a file holds that a store is put into at a split, and what its binding covers, by the container.
use Rattle.c2_bmff_insert_spec.proofs.TheLaws.{a_put_store_is_not_covered_some, a_put_store_is_not_covered_text}
use Rattle.std.proofs.Common.{◌≡◌, ℕ, ◌+◌, List, [], ◌∷◌, ◌++◌, length, Option, Some, option_map, refl, sym, ap, ◌∙◌, subst}
use Rattle.std.proofs.lemmas.Option.{same_Some}
use Rattle.c2_spec.specs.Bmff.Boxes.{Box, HasRoots, box_bytes, boxes_len}
use Rattle.c2_spec.specs.Bmff.Cover.{IsBmffCover}
use Rattle.c2_spec.specs.Bmff.Writing.{built_exclusions, built_text, c2pa_box, c2pa_frame_len}
use Rattle.c2_spec.specs.Cover.{data_text}
use Rattle.c2_spec.specs.Jpeg.Segments.{Segment, place_after}
use Rattle.c2_spec.specs.Jpeg.Writing.{packets_bytes, segments_len}
use Rattle.c2_spec.specs.PutIn.{put_in}
use Rattle.c2_spec.proofs.BmffOneList.{roots_once}
use Rattle.c2_bmff_insert_spec.specs.Laws.{HasBuiltCover}
use Rattle.c2_new_file_spec.specs.Store.{range_at}
use Rattle.c2_new_file_spec.proofs.BuiltLemmas.{covers_base}
use Rattle.c2_new_content_spec.specs.Holding.{CoversAt, HoldsAt, PieceIsThere, StoreIsAtSplit, TextIsCovered, TextIsOne}
use Rattle.c2_new_content_spec.specs.Splits.{CanHold, CanNumber, boxes_text, of_boxes, of_segments, split_file}
use Rattle.c2_new_content_spec.proofs.SplitBoxes.{box_at, boxes_hold}
use Rattle.c2_new_content_spec.proofs.Segments.{number_can, packets_hold, segments_hold, segments_inside}
use Rattle.c2_new_content_spec.proofs.Texts.{text_at}

-- ---- the store

-- something is put in of each store
pub piece_there : PieceIsThere
piece_there (of_segments front back number) store room =
    (packets_bytes store room.0, ap (option_map (packets_bytes store)) room.1)
piece_there (of_boxes front back) store room = (box_bytes (c2pa_box store), refl)

-- the packets that are put in are those under the number that is given
pub packets_are : (number : Option ℕ) (en : ℕ) (store piece : List ℕ) → number ≡ Some en
    → option_map (packets_bytes store) number ≡ Some piece
    → packets_bytes store en ≡ piece
packets_are number en store piece free is =
    same_Some (packets_bytes store en) piece (sym (ap (option_map (packets_bytes store)) free) ∙ is)

-- the file holds it
pub store_holds : StoreIsAtSplit
store_holds base (of_segments front back number) store piece can put =
    let en : ℕ = can.room.room.0 in
    let free : CanNumber back en = number_can front back number en can.room.room.1 can.room.split.1 in
    subst (λ (x : List ℕ). HoldsAt base (of_segments front back number) store (put_in (place_after front) x base))
    (packets_are number en store piece can.room.room.1 put)
    (segments_hold base front back number en store can free)
store_holds base (of_boxes front back) store piece can put =
    subst (λ (x : List ℕ). HoldsAt base (of_boxes front back) store (put_in (boxes_len front) x base))
    (same_Some (box_bytes (c2pa_box store)) piece put) (boxes_hold base front back store can)

-- ---- the text

-- outside the packets of a store a file has what it was
pub segments_text :
    (base : List ℕ) (front back : List Segment) (number : Option ℕ) (store piece : List ℕ)
    → CanHold base (of_segments front back number) store → option_map (packets_bytes store) number ≡ Some piece
    → data_text (range_at (place_after front) (segments_len (length store)) ∷ []) (put_in (place_after front) piece base) ≡ base
segments_text base front back number store piece can put =
    let en : ℕ = can.room.room.0 in
    let free : CanNumber back en = number_can front back number en can.room.room.1 can.room.split.1 in
    let held = packets_hold base front back number en store can free in
    let same : packets_bytes store en ≡ piece = packets_are number en store piece can.room.room.1 put in
    covers_base (place_after front) (segments_len (length store)) piece base
    (segments_inside base front back can.room.split.0)
    (sym held.size ∙ ap length same)

-- the binding covers the text
pub text_covered : TextIsCovered
text_covered base (of_segments front back number) store piece can put =
    sym (segments_text base front back number store piece can put)
text_covered base (of_boxes front back) store piece can put =
    let boxes : List Box = front ++ c2pa_box store ∷ back in
    let whole : List ℕ = split_file base (of_boxes front back) (box_bytes (c2pa_box store)) in
    let has : HasRoots whole boxes = box_at base front back store can.room in
    let cover : HasBuiltCover boxes (length whole) = a_put_store_is_not_covered_some whole boxes (length whole) has in
    let text : built_text boxes ≡ boxes_text (c2pa_frame_len + length store) front back =
    text_at base front back store can.room.split.1 in
    subst
    (λ (x : List ℕ). CoversAt (of_boxes front back) (c2pa_frame_len + length store) (put_in (boxes_len front) x base) (boxes_text (c2pa_frame_len + length store) front back))
    (same_Some (box_bytes (c2pa_box store)) piece put)
    (record {
      boxes = boxes;
      has_boxes = has;
      excluded = cover.excluded;
      covers =
          subst (λ (x : List ℕ). IsBmffCover boxes (length whole) built_exclusions cover.excluded x) text cover.cover;
    })

-- the binding covers no other text
pub text_one : TextIsOne
text_one base (of_segments front back number) store piece text can put c =
    c ∙ segments_text base front back number store piece can put
text_one base (of_boxes front back) store piece text can put c =
    let boxes : List Box = front ++ c2pa_box store ∷ back in
    let file : List ℕ = split_file base (of_boxes front back) piece in
    let has : HasRoots file boxes =
    subst (λ (x : List ℕ). HasRoots (put_in (boxes_len front) x base) boxes)
    (same_Some (box_bytes (c2pa_box store)) piece put)
    (box_at base front back store can.room) in
    a_put_store_is_not_covered_text file c.boxes (length file) c.excluded text c.has_boxes c.covers
    ∙ ap built_text (roots_once file c.boxes boxes c.has_boxes has)
    ∙ text_at base front back store can.room.split.1
