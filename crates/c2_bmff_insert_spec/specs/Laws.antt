-- What holds of BMFF files that a store is put into, and of their bases, as statements.
use Rattle.std.specs.Prelude.{◌≡◌, ℕ, ◌+◌, ◌^◌, ◌<◌, true, false, List, length, map, None}
use Rattle.std.specs.List.{flat_map, AllByRecursion}
use Rattle.c2_spec.specs.Bmff.Boxes.{Box, HasRoots, box_bytes, box_len, most_roots}
use Rattle.c2_spec.specs.Bmff.Cover.{IsBmffCover}
use Rattle.c2_spec.specs.Bmff.Paths.{placed_from}
use Rattle.c2_spec.specs.Bmff.Store.{HoldsBmffStore, is_other_box}
use Rattle.c2_spec.specs.Bmff.Writing.{IsBmffBase, IsBoxStore, base_roots, built_exclusions, built_text, c2pa_box, c2pa_frame_len, insert_place, is_file_end, open_end, with_store}
use Rattle.c2_spec.specs.PutIn.{put_in, taken_out}

-- A file with these root boxes can take the store: it has none, its last box isn't open, and with the store's box it is small enough.
pub record CanTake (base : List ℕ) (roots : List Box) (store : List ℕ) : Type 0 where
  pub has_roots : HasRoots base roots
  pub others : AllByRecursion (λ b. is_other_box b ≡ true) roots
  pub closed : open_end (placed_from 0 roots) ≡ None
  pub is_store : IsBoxStore store
  pub fits : length base + (c2pa_frame_len + length store) < 2 ^ 62
  pub few : length roots < most_roots

-- the file with the store's box put in
abbrev pub file_with : List ℕ → List Box → List ℕ → List ℕ
file_with base roots store = put_in (insert_place roots) (box_bytes (c2pa_box store)) base

-- The file has the store in its box among the root boxes that it had; the file it was is its base, and what is left without the box.
pub record HoldsNewStore (base : List ℕ) (roots : List Box) (store file : List ℕ) : Type 0 where
  pub has_roots : HasRoots file (with_store store roots)
  pub holds : HoldsBmffStore (with_store store roots) (insert_place roots) (c2pa_frame_len + length store) store
  pub left : taken_out (insert_place roots) (c2pa_frame_len + length store) file ≡ base
  pub base_is : IsBmffBase file base roots
  pub size : length file ≡ length base + (c2pa_frame_len + length store)

-- each store that is put into a file that can take it is held by the new file
abbrev pub StoreIsPutIn : Type 0
StoreIsPutIn =
    (base : List ℕ) (roots : List Box) (store : List ℕ) → CanTake base roots store
    → HoldsNewStore base roots store (file_with base roots store)

-- the base of a file is a BMFF file without a store
abbrev pub BaseHasNoStore : Type 0
BaseHasNoStore =
    (file base : List ℕ) (roots : List Box) → IsBmffBase file base roots
    → HasRoots base roots × AllByRecursion (λ b. is_other_box b ≡ true) roots

-- an older store's box at the end of the file is cut out
abbrev pub EndIsCutOut : Type 0
EndIsCutOut =
    (file : List ℕ) (boxes : List Box) (start len : ℕ) (store : List ℕ) → HasRoots file boxes
    → (h : HoldsBmffStore boxes start len store) → is_file_end h.after ≡ true
    → flat_map box_bytes (base_roots h.before h.holder h.after) ≡ taken_out start len file

-- elsewhere, each root box keeps its length
abbrev pub OthersKeepLengths : Type 0
OthersKeepLengths =
    (boxes : List Box) (start len : ℕ) (store : List ℕ) → (h : HoldsBmffStore boxes start len store)
    → is_file_end h.after ≡ false
    → map box_len (base_roots h.before h.holder h.after) ≡ map box_len boxes

-- a file has one base
abbrev pub BaseIsOne : Type 0
BaseIsOne =
    (file a b : List ℕ) (rs ss : List Box) → IsBmffBase file a rs → IsBmffBase file b ss
    → (a ≡ b) × (rs ≡ ss)

-- what the exclusions of a new BMFF hash leave of a file, told by its root boxes alone
abbrev pub CoverIsBuiltText : Type 0
CoverIsBuiltText =
    (file : List ℕ) (roots : List Box) (size : ℕ) (excluded text : List ℕ) → HasRoots file roots
    → IsBmffCover roots size built_exclusions excluded text → text ≡ built_text roots

-- the exclusions of a new BMFF hash leave what `built_text` tells of root boxes that fill so many bytes
pub record HasBuiltCover (roots : List Box) (size : ℕ) : Type 0 where
  pub excluded : List ℕ
  pub cover : IsBmffCover roots size built_exclusions excluded (built_text roots)

-- the exclusions of a new BMFF hash leave what `built_text` tells of the root boxes of each file
abbrev pub BuiltTextIsCovered : Type 0
BuiltTextIsCovered = (file : List ℕ) (roots : List Box) (size : ℕ) → HasRoots file roots → HasBuiltCover roots size

-- `built_text` tells one text of root boxes with a store and without it
abbrev pub StoreIsNotCovered : Type 0
StoreIsNotCovered = (roots : List Box) (store : List ℕ) → built_text (with_store store roots) ≡ built_text roots
