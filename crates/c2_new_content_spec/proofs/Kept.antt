-- Which bytes of a media file a new file keeps.
use Rattle.std.proofs.Common.{◌≡◌, inl, inr, ℕ, ◌≤◌, Bool, true, false, cond, List, ◌∷◌, ◌++◌, length, Some, None, refl, sym, ap, ◌∙◌, subst, arith, length-append}
use Rattle.std.proofs.lemmas.Grind.{flat_map-append}
use Rattle.std.specs.Bool.{MatchBool}
use Rattle.std.specs.List.{flat_map}
use Rattle.c2_spec.specs.Bmff.Boxes.{AreBoxForms, Box, HasRoots, IsBox, box_bytes, box_len, boxes_len}
use Rattle.c2_spec.specs.Bmff.Store.{HasBmffStore, HoldsBmffStore}
use Rattle.c2_spec.specs.Bmff.Writing.{AreBaseRoots, IsBmffBase, base_roots, freed, is_file_end, same, without}
use Rattle.c2_spec.specs.Container.{IsLocated, is_bmff}
use Rattle.c2_spec.specs.Jpeg.Store as jpeg
use Rattle.c2_spec.specs.PutIn.{taken_out}
use Rattle.c2_spec.proofs.BmffOneList.{first_box}
use Rattle.c2_spec.proofs.BmffOneStore.{store_or_none, stores_once}
use Rattle.c2_spec.proofs.BmffSizes.{bytes_size}
use Rattle.c2_bmff_insert_spec.proofs.TheLaws.{a_base_has_no_store_cut}
use Rattle.c2_new_content_spec.proofs.SplitRoots.{forms_back}
use Rattle.c2_new_file_spec.specs.Store.{range_at}
use Rattle.c2_new_file_spec.proofs.Put.{put_taken}
use Rattle.c2_new_file_spec.specs.Bases.{IsLeftOfBoxes}
use Rattle.c2_new_content_spec.specs.Kept.{KeepsOutside, LeftKeeps, PieceIsTakenOut, SplitFileKeeps}
use Rattle.c2_new_content_spec.specs.Splits.{IsSplit, Split, of_boxes, of_segments, split_start}
use Rattle.c2_new_content_spec.proofs.Segments.{segments_inside}
use Rattle.c2_bmff_insert_spec.proofs.Bases.{freed_len, is_freed}
use Rattle.c2_bmff_insert_spec.proofs.Placing.{left_is}
use Rattle.c2_new_file_spec.proofs.Somes.{located_here}

-- ---- what is put in

-- a split lies in the file
split_inside : (base : List ℕ) (s : Split) → IsSplit base s → split_start s ≤ length base
split_inside base (of_segments front back number) h = segments_inside base front back h.0
split_inside base (of_boxes front back) h =
    omega
    (arith, ap length h.1.bytes, ap length (flat_map-append box_bytes front back), length-append (flat_map box_bytes front) (flat_map box_bytes back))

-- what is put in at a split can be taken out
pub piece_out : PieceIsTakenOut
piece_out base s piece h = put_taken (split_start s) piece base (split_inside base s h)

-- ---- the base

-- a file with a box freed is, less that box, the other one less the box
freed_same : (media base : List ℕ) (xs : List Box) (b : Box) (ys : List Box) → IsBox b
    → media ≡ flat_map box_bytes (xs ++ b ∷ ys) → base ≡ flat_map box_bytes (xs ++ freed b ∷ ys)
    → taken_out (boxes_len xs) (box_len b) base ≡ taken_out (boxes_len xs) (box_len b) media
freed_same media base xs b ys is was now =
    let size : length (box_bytes b) ≡ box_len b = bytes_size b is in
    let still : length (box_bytes (freed b)) ≡ box_len b = bytes_size (freed b) (is_freed b is) ∙ freed_len b in
    ap (taken_out (boxes_len xs) (box_len b)) now ∙ left_is xs ys (freed b) (box_len b) still
    ∙ sym (ap (taken_out (boxes_len xs) (box_len b)) was ∙ left_is xs ys b (box_len b) size)

-- the root boxes without the one that holds a store keep the bytes of the file
roots_keep : (media base : List ℕ) (boxes : List Box) (start len : ℕ) (store : List ℕ)
    → HasRoots media boxes
    → (h : HoldsBmffStore boxes start len store) → base ≡ flat_map box_bytes (base_roots h.before h.holder h.after)
    → KeepsOutside media (Some (range_at start len)) base
roots_keep media base boxes start len store r h is = by (is_file_end h.after) refl
  where
    by : (t : Bool) → is_file_end h.after ≡ t → KeepsOutside media (Some (range_at start len)) base
    by true e =
        record
        { freed = None; only = inl refl; same = is ∙ a_base_has_no_store_cut media boxes start len store r h e }
    by false e =
        let own : IsBox h.holder =
        first_box h.holder h.after (forms_back h.before h.holder h.after (subst AreBoxForms h.split r.forms)) in
        let was : media ≡ flat_map box_bytes (h.before ++ h.holder ∷ h.after) =
        r.bytes ∙ ap (flat_map box_bytes) h.split in
        let now : base ≡ flat_map box_bytes (h.before ++ freed h.holder ∷ h.after) =
        is ∙ ap (λ (t : Bool). flat_map box_bytes (cond t (h.before ++ h.after) (h.before ++ freed h.holder ∷ h.after))) e in
        let kept : taken_out (boxes_len h.before) (box_len h.holder) base ≡ taken_out (boxes_len h.before) (box_len h.holder) media =
        freed_same media base h.before h.holder h.after own was now in
        record {
          freed = Some (range_at start len);
          only = inr refl;
          same = subst (λ n. taken_out n len base ≡ taken_out n len media) (sym h.from)
              (subst (λ n. taken_out (boxes_len h.before) n base ≡ taken_out (boxes_len h.before) n media) (sym h.for) kept);
        }

-- the base of a BMFF file with a store keeps the bytes of the file outside the store's range
bmff_keeps : (media base : List ℕ) (roots : List Box) (start len : ℕ) (store : List ℕ)
    → HasBmffStore media start len store
    → IsBmffBase media base roots → KeepsOutside media (Some (range_at start len)) base
bmff_keeps media base roots start len store has h = by h.are
  where
    by : AreBaseRoots h.boxes roots → KeepsOutside media (Some (range_at start len)) base
    by (same others e) =
        absurd
        (store_or_none media start len store has (record { roots = h.boxes; has_roots = h.has_roots; none = others }))
    by (without s n text holds e) =
        let other : HasBmffStore media s n text = record { roots = h.boxes; has_roots = h.has_roots; holds = holds } in
        let once = stores_once media s n start len text store other has in
        let left = roots_keep media base h.boxes s n text h.has_roots holds (h.bytes ∙ ap (flat_map box_bytes) e) in
        subst (λ (x : ℕ). KeepsOutside media (Some (range_at x len)) base) once.0
        (subst (λ (x : ℕ). KeepsOutside media (Some (range_at s x)) base) once.1 left)

-- ---- the media

-- what is left of a media file keeps the bytes outside the range of its store
pub left_keeps : LeftKeeps
left_keeps media start len t base o left =
    let at = located_here o.0 start len t o.2 in
    by at.0 (is_bmff media) (subst (IsLocated media) at.1 o.1) left
  where
    by : (store : List ℕ) (b : Bool)
        → MatchBool b (HasBmffStore media start len store) (jpeg.HasJpegStore media start len store)
        → MatchBool b (IsLeftOfBoxes media base) (base ≡ taken_out start len media)
        → KeepsOutside media (Some (range_at start len)) base
    by store true h k = bmff_keeps media base k.0 start len store h k.1
    by store false h k = record { freed = None; only = inl refl; same = k }

-- what is left of a media file keeps its bytes, whatever is put into it
pub file_keeps : SplitFileKeeps
file_keeps media old base s piece keeps is = subst (KeepsOutside media old) (sym (piece_out base s piece is)) keeps
