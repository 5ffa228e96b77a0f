-- A store in front of the other boxes of a BMFF file (ISO/IEC 14496-12, 4.2), right after its file type box (4.3), as statements. The
-- place is this project's own choice.
use Rattle.std.specs.Prelude.{◌≡◌, ℕ, ◌+◌, ◌^◌, ◌<◌, ◌≤◌, true, Option, Some, None, List, [], ◌∷◌, ◌++◌, length, take, drop, if◌then◌else◌}
use Rattle.std.specs.List.{flat_map, AllByRecursion}
use Rattle.c2_spec.specs.Bmff.Boxes.{Box, HasRoots, box_bytes, boxes_len, is_to_end, most_roots}
use Rattle.c2_spec.specs.Bmff.Paths.{placed_from}
use Rattle.c2_spec.specs.Bmff.Store.{HoldsBmffStore, is_other_box, most_store_bytes}
use Rattle.c2_spec.specs.Bmff.Writing.{IsBoxStore, built_part, built_text, c2pa_box, c2pa_frame_len}
use Rattle.c2_spec.specs.PutIn.{put_in, taken_out}

-- where the first root box ends
abbrev pub front_place : List Box → ℕ
front_place roots = boxes_len (take 1 roots)

-- where the first root box begins, if it says no size: nothing can be put after it
abbrev pub open_first : List Box → Option ℕ
open_first [] = None
open_first (b ∷ bs) = if is_to_end b.form then Some 0 else None

-- the root boxes with the box of a store after the first
abbrev pub front_with : List ℕ → List Box → List Box
front_with store roots = take 1 roots ++ c2pa_box store ∷ drop 1 roots

-- a file with the box of a store put in after its first root box
abbrev pub put_in_front : List ℕ → List Box → List ℕ → List ℕ
put_in_front base roots store = put_in (front_place roots) (box_bytes (c2pa_box store)) base

-- what the exclusions of a new BMFF hash leave of the boxes after the first, where so many bytes are put in between: each of these
-- boxes is so many places later
abbrev pub others_text : ℕ → List Box → List ℕ
others_text len roots = flat_map built_part (placed_from (front_place roots + len) (drop 1 roots))

-- A file with these root boxes has room after the first of them for a store of so many bytes: the first box says its size, and with the
-- store's box the file is small enough.
pub record HasFrontRoom (base : List ℕ) (roots : List Box) (size : ℕ) : Type 0 where
  pub has_roots : HasRoots base roots
  pub closed : open_first roots ≡ None
  pub small : size ≤ most_store_bytes
  pub fits : length base + (c2pa_frame_len + size) < 2 ^ 62
  pub few : length roots < most_roots

-- A file with these root boxes can take the store after the first of them: it has room for it, and no store of its own.
pub record CanTakeFront (base : List ℕ) (roots : List Box) (store : List ℕ) : Type 0 where
  pub room : HasFrontRoom base roots (length store)
  pub others : AllByRecursion (λ b. is_other_box b ≡ true) roots
  pub is_store : IsBoxStore store

-- The file has the store in its box after the first root box; what is left without the box is the file it was. It begins with the same
-- two bytes, by which a JPEG is told from a BMFF file.
pub record HoldsFrontStore (base : List ℕ) (roots : List Box) (store file : List ℕ) : Type 0 where
  pub has_roots : HasRoots file (front_with store roots)
  pub holds : HoldsBmffStore (front_with store roots) (front_place roots) (c2pa_frame_len + length store) store
  pub left : taken_out (front_place roots) (c2pa_frame_len + length store) file ≡ base
  pub size : length file ≡ length base + (c2pa_frame_len + length store)
  pub starts : take 2 file ≡ take 2 base

-- A file with room for a store after its first root box has, once a store's box is put in, the root boxes that it had and the new one,
-- whatever bytes are in the box in place of a store.
abbrev pub FrontHasRoots : Type 0
FrontHasRoots = (base : List ℕ) (roots : List Box) (store : List ℕ) → HasFrontRoom base roots (length store)
    → HasRoots (put_in_front base roots store) (front_with store roots)

-- A store that is put into a file after its first root box, where the file can take it, is in that file, which is otherwise as it was.
abbrev pub StoreIsPutInFront : Type 0
StoreIsPutInFront =
    (base : List ℕ) (roots : List Box) (store : List ℕ) → CanTakeFront base roots store
    → HoldsFrontStore base roots store (put_in_front base roots store)

-- Of a file with a store put in after its first root box the exclusions of a new BMFF hash leave nothing of that box and of the store: only
-- the boxes behind are covered, at their new places. So two stores of one length leave the same.
abbrev pub OnlyOthersAreCovered : Type 0
OnlyOthersAreCovered = (base : List ℕ) (roots : List Box) (store : List ℕ) → HasRoots base roots
    → built_text (front_with store roots) ≡ others_text (c2pa_frame_len + length store) roots
