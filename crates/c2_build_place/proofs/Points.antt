-- What is left of a media file that was opened, and the place in it.
use Rattle.c2_jpegseg_segments.proofs.TheLaws.{segments_end_or_fail_one}
use Rattle.std.proofs.Common.{◌≡◌, ℕ, ◌+◌, ◌-◌, ◌≤◌, Bool, true, false, not, ◌&&◌, List, Option, Some, None, Ok, IfSome, refl, sym, ap, subst, arith}
use Rattle.std.specs.Bool.{MatchBool}
use Rattle.c2_base.specs.declared.media.Found.{Found}
use Rattle.c2_spec.specs.Bmff.Boxes.{begins_bmff}
use Rattle.c2_spec.specs.Container.{IsLocated, begins_jpeg, is_bmff}
use Rattle.c2_spec.specs.Jpeg.Segments.{Segment}
use Rattle.c2_spec.specs.Jpeg.Writing.{IsNumberOf}
use Rattle.c2_spec.specs.Located.{absent, here, as_located}
use Rattle.c2_spec.specs.PutIn.{taken_out}
use Rattle.c2_spec.proofs.Containers.{of_bmff}
use Rattle.c2_rules.proofs.JpegMedia.{no_bmff}
use Rattle.c2_bmff_boxes.specs.Search.{IsStoreOr}
use Rattle.c2_bmff_rows.specs.declared.row.RootBox.{RootBox}
use Rattle.c2_jpegseg_survey.specs.Surveys.{HasPacketPoint, range_of}
use Rattle.c2_jpegseg_survey.specs.declared.surveying.PacketPoint.{PacketPoint}
use Rattle.c2_new_file_spec.proofs.Media.{base_media}
use Rattle.c2_new_file_spec.specs.Bases.{IsLeft, IsLeftOfBoxes}
use Rattle.c2_new_file_spec.specs.Places.{in_boxes, in_segments}
use Rattle.c2_without_store.specs.Clears.{AreRootsLeft, ClearsTo, cleared, cleared_len, cut_len}
use Rattle.c2_without_store.specs.declared.clearing.Clearing.{Clearing}
use Rattle.c2_without_store.specs.declared.clearing.Clearing.TheVariants.{Cut, Freed}
use Rattle.c2_build_refusals.specs.declared.types.InsertPoint.TheVariants as InsertPoint
use Rattle.c2_build_place.specs.PointsLeft.{HasInsertPoint}

-- ---- what is left

-- no JPEG file is a BMFF file
pub jpeg_form : (file : List ℕ) → begins_jpeg file ≡ true → is_bmff file ≡ false
jpeg_form file is = ap (λ (b : Bool). not b && begins_bmff file) is

-- what is left of a JPEG file less its store
pub jpeg_left : (file : List ℕ) (start len : ℕ) → is_bmff file ≡ false
    → IsLeft file start len (taken_out start len file)
jpeg_left file start len is =
    subst
    (λ (b : Bool). MatchBool b (IsLeftOfBoxes file (taken_out start len file)) (taken_out start len file ≡ taken_out start len file))
    (sym is) refl

-- a BMFF file that is cleared to its base
pub bmff_left : (file : List ℕ) (start len : ℕ) (c : Clearing) → is_bmff file ≡ true → ClearsTo file c
    → IsLeft file start len (cleared c file)
bmff_left file start len c is h =
    subst (λ (b : Bool). MatchBool b (IsLeftOfBoxes file (cleared c file)) (cleared c file ≡ taken_out start len file))
    (sym is) h

-- so its store was found among its boxes, or none was
pub bmff_found : (file : List ℕ) (o : Option Found) → is_bmff file ≡ true → IfSome (as_located (Ok o)) (IsLocated file)
    → IsStoreOr file (Ok o)
bmff_found file None is h = of_bmff file absent is h
bmff_found file (Some f) is h = of_bmff file (here f.start f.length f.store) is h

-- ---- the place

-- a place and a number that were found in one walk over a file are those of one place
pub packets_point : (file : List ℕ) (p : PacketPoint) → HasPacketPoint file p
    → HasInsertPoint file (InsertPoint.Segments p.start p.number)
packets_point file p h =
    let place = h.place in
    let same : h.number.segments ≡ place.segments =
    segments_end_or_fail_one file h.number.segments place.segments h.number.is_of place.is_of in
    (in_segments place.segments p.number, (no_bmff file place.segments place.is_of.rest place.is_of.begins, place.is_of, subst (λ (ss : List Segment). IsNumberOf ss p.number) same h.number.number_is), (place.place_is, refl))

-- the root boxes of what is left of a BMFF file are its place
pub boxes_point : (file : List ℕ) (c : Clearing) (rows : List RootBox) → is_bmff file ≡ true → AreRootsLeft file c rows
    → HasInsertPoint (cleared c file) (InsertPoint.Boxes rows)
boxes_point file c rows is h =
    (in_boxes h.boxes, (base_media file (cleared c file) h.boxes h.base h.has_roots is, h.has_roots), h.are)

-- ---- how many bytes are left

-- of a file from which a range inside it is cut out
pub cut_size : (len : ℕ) (o : Option Found) → IfSome o (λ f. f.start + f.length ≤ len)
    → len - (range_of o).length ≡ cut_len (range_of o) len
cut_size len None h = omega arith
cut_size len (Some f) h = omega (arith, h)

-- no more than it had
pub cleared_most : (c : Clearing) (len : ℕ) → cleared_len c len ≤ len
cleared_most (Cut range) len = omega arith
cleared_most (Freed row) len = omega arith
