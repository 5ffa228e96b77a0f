-- What a file holds that a store is put into at a split, and what its new binding covers, as statements.
use Rattle.std.specs.Prelude.{◌≡◌, ℕ, ◌+◌, List, [], ◌∷◌, ◌++◌, length, Some}
use Rattle.c2_spec.specs.Bmff.Boxes.{Box, HasRoots, box_bytes}
use Rattle.c2_spec.specs.Bmff.Cover.{IsBmffCover}
use Rattle.c2_spec.specs.Bmff.Writing.{built_exclusions, built_text, c2pa_box, c2pa_frame_len}
use Rattle.c2_spec.specs.Container.{IsLocated}
use Rattle.c2_spec.specs.Cover.{data_text}
use Rattle.c2_spec.specs.Jpeg.Segments.{place_after}
use Rattle.c2_spec.specs.Located.{here}
use Rattle.c2_spec.specs.PutIn.{taken_out}
use Rattle.c2_new_file_spec.specs.Store.{range_at}
use Rattle.c2_new_content_spec.specs.Splits.{CanHold, HasRoom, HasRoomFor, Split, boxes_text, of_boxes, of_segments, split_file, split_len, split_piece, split_start, split_text}

-- ---- the store

-- where something can be put, there is something to put in of each store
abbrev pub PieceIsThere : Type 0
PieceIsThere = (s : Split) (store : List ℕ) → HasRoom s → (piece : List ℕ) × (split_piece s store ≡ Some piece)

-- The file has the store in the new range; without that range it is what it was.
pub record HoldsAt (base : List ℕ) (s : Split) (store file : List ℕ) : Type 0 where
  pub located : IsLocated file (here (split_start s) (split_len s (length store)) store)
  pub left : taken_out (split_start s) (split_len s (length store)) file ≡ base
  pub size : length file ≡ length base + split_len s (length store)

-- A file that a store is put into at a split holds it so, where the store can be put there.
abbrev pub StoreIsAtSplit : Type 0
StoreIsAtSplit = (base : List ℕ) (s : Split) (store piece : List ℕ) → CanHold base s store
    → split_piece s store ≡ Some piece
    → HoldsAt base s store (split_file base s piece)

-- ---- what is covered

-- Where there is room for them, the box of any bytes stands among the root boxes of the file, also where they are no
-- store.
abbrev pub BoxIsAtSplit : Type 0
BoxIsAtSplit = (base : List ℕ) (front back : List Box) (bytes : List ℕ)
    → HasRoomFor base (of_boxes front back) (length bytes)
    → HasRoots (split_file base (of_boxes front back) (box_bytes (c2pa_box bytes))) (front ++ c2pa_box bytes ∷ back)

-- What the exclusions of a new BMFF hash leave of root boxes with a store depends on the store by its length alone.
abbrev pub BoxesTextIsTold : Type 0
BoxesTextIsTold = (base : List ℕ) (front back : List Box) (bytes : List ℕ) → HasRoots base (front ++ back)
    → built_text (front ++ c2pa_box bytes ∷ back) ≡ boxes_text (c2pa_frame_len + length bytes) front back

-- The exclusions of a new BMFF hash leave this text of a file.
pub record CoversBoxes (file text : List ℕ) : Type 0 where
  pub boxes : List Box
  pub has_boxes : HasRoots file boxes
  pub excluded : List ℕ
  pub covers : IsBmffCover boxes (length file) built_exclusions excluded text

-- The new binding covers this text of a file, where so many bytes are put in at a split: what the file has outside the
-- new range, or what the exclusions leave of it.
abbrev pub CoversAt : Split → ℕ → List ℕ → List ℕ → Type 0
CoversAt (of_segments front back number) len file text = text ≡ data_text (range_at (place_after front) len ∷ []) file
CoversAt (of_boxes front back) len file text = CoversBoxes file text

-- The new binding covers the text that is told by the base, the split, and how many bytes are put in.
abbrev pub TextIsCovered : Type 0
TextIsCovered = (base : List ℕ) (s : Split) (store piece : List ℕ) → CanHold base s store
    → split_piece s store ≡ Some piece
    → CoversAt s (split_len s (length store)) (split_file base s piece) (split_text base s (split_len s (length store)))

-- The new binding covers no other text: so the digest is known before the store is.
abbrev pub TextIsOne : Type 0
TextIsOne = (base : List ℕ) (s : Split) (store piece text : List ℕ) → CanHold base s store
    → split_piece s store ≡ Some piece
    → CoversAt s (split_len s (length store)) (split_file base s piece) text
    → text ≡ split_text base s (split_len s (length store))
