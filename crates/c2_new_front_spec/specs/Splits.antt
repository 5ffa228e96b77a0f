-- The place right behind the file type box of a BMFF file is a split.
use Rattle.std.specs.Prelude.{◌≡◌, ℕ, ◌<◌, true, List, length, take, drop, None}
use Rattle.c2_spec.specs.Bmff.Boxes.{Box, HasRoots, most_roots}
use Rattle.c2_spec.specs.Container.{is_bmff}
use Rattle.c2_new_file_spec.specs.Films.{AreOthers}
use Rattle.c2_new_front_spec.specs.InFront.{front_place, open_first, others_text}
use Rattle.c2_new_content_spec.specs.Splits.{HasRoom, IsFree, IsSplit, Split, of_boxes, split_start, split_text}

-- the split behind the first root box
abbrev pub front_split : List Box → Split
front_split roots = of_boxes (take 1 roots) (drop 1 roots)

-- The place behind the first root box splits the file, which has no store. It begins where the first root box ends, and
-- there is room where that isn't open and the file may have one box more; bound are the boxes behind, at their new
-- places.
pub record IsFrontSplit (base : List ℕ) (roots : List Box) : Type 0 where
  pub split : IsSplit base (front_split roots)
  pub free : IsFree (front_split roots)
  pub start : front_place roots ≡ split_start (front_split roots)
  pub room : open_first roots ≡ None → length roots < most_roots → HasRoom (front_split roots)
  pub text : (len : ℕ) → split_text base (front_split roots) len ≡ others_text len roots

-- Each BMFF file without a store is split so behind its first root box.
abbrev pub FrontIsSplit : Type 0
FrontIsSplit = (base : List ℕ) (roots : List Box) → is_bmff base ≡ true → HasRoots base roots → AreOthers roots
    → IsFrontSplit base roots
