-- The place where a new store goes in a file is a split: behind the APP0 segments at the front of a JPEG file, or
-- behind the root boxes of a BMFF file and before a last `mfra`.
use Rattle.std.specs.Prelude.{◌≡◌, ◌==◌, ℕ, List, [], ◌∷◌, if◌then◌else◌}
use Rattle.c2_spec.specs.Bmff.Writing.{before_mfra, last_mfra}
use Rattle.c2_spec.specs.Jpeg.Segments.{Segment}
use Rattle.c2_spec.specs.Jpeg.Writing.{leading_app0}
use Rattle.c2_spec.specs.declared.markers.TheConstants.{APP0}
use Rattle.c2_new_file_spec.specs.Places as place
use Rattle.c2_new_file_spec.specs.Places.{IsFreePlace, Place, bound_text, in_boxes, in_segments, place_start, put_bytes}
use Rattle.c2_new_content_spec.specs.Splits.{HasRoom, IsFree, IsSplit, Split, of_boxes, of_segments, split_piece, split_start, split_text}

-- ---- the place of a file

-- the segments behind the APP0 segments at the front
abbrev pub behind_app0 : List Segment → List Segment
behind_app0 [] = []
behind_app0 (s ∷ ss) = if s.marker == APP0 then behind_app0 ss else s ∷ ss

-- the place of a file as a split
abbrev pub split_of : Place → Split
split_of (in_segments segments number) = of_segments (leading_app0 segments) (behind_app0 segments) number
split_of (in_boxes roots) = of_boxes (before_mfra roots) (last_mfra roots)

-- The place of a file splits it, and the file has no store. The split begins there, and has room where the place
-- has it; the same bytes are put in of each store, and the same text is bound.
pub record IsSplitPlace (base : List ℕ) (p : Place) : Type 0 where
  pub split : IsSplit base (split_of p)
  pub free : IsFree (split_of p)
  pub start : place_start p ≡ split_start (split_of p)
  pub room : place.HasRoom p → HasRoom (split_of p)
  pub piece : (store : List ℕ) → put_bytes p store ≡ split_piece (split_of p) store
  pub text : (len : ℕ) → split_text base (split_of p) len ≡ bound_text base p

-- The place of each file without a store is such a split.
abbrev pub PlaceIsSplit : Type 0
PlaceIsSplit = (base : List ℕ) (p : Place) → IsFreePlace base p → IsSplitPlace base p
