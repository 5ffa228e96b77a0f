-- A place in a media file where a new store can be put, as a split: some of the file's segments or root boxes stand
-- before it, and the others behind it (C2PA Technical Specification 2.x, "Embedding manifests into assets"). What
-- depends on such a place is told by it alone, whichever place it is.
use Rattle.std.specs.Prelude.{◌≡◌, ℕ, ◌+◌, ◌^◌, ◌<◌, ◌≤◌, true, false, List, ◌++◌, length, Some, None}
use Rattle.std.specs.declared.option.Option.{Option}
use Rattle.std.specs.Option.{option_map}
use Rattle.std.specs.List.{flat_map, AllByRecursion}
use Rattle.c2_base.specs.declared.limits.TheConstants.{MAX_STORE_LEN, FILE_LEN_LIMIT}
use Rattle.c2_spec.specs.Bmff.Boxes.{Box, HasRoots, box_bytes, boxes_len, is_to_end, most_roots}
use Rattle.c2_spec.specs.Bmff.Paths.{placed_from}
use Rattle.c2_spec.specs.Bmff.Writing.{IsBoxStore, built_part, c2pa_box, c2pa_frame_len}
use Rattle.c2_spec.specs.Container.{is_bmff}
use Rattle.c2_spec.specs.Jpeg.Places.{IsOfSegments}
use Rattle.c2_spec.specs.Jpeg.Segments.{Segment, place_after}
use Rattle.c2_spec.specs.Jpeg.Store.{NoneBegins}
use Rattle.c2_spec.specs.Jpeg.Writing.{IsNumberOf, IsPacketStore, is_taken, packets_bytes, segments_len}
use Rattle.c2_spec.specs.PutIn.{put_in}
use Rattle.c2_spec.specs.declared.digest.Alg.{Alg}
use Rattle.c2_definition.specs.declared.types.NewAssertion.{NewAssertion}
use Rattle.c2_new_file_spec.specs.Store.{data_binding}
use Rattle.c2_new_file_spec.specs.Films.{AreOthers, new_bmff_binding}

-- ---- the place

-- Between these segments of a JPEG file and those, with a number for packets, where there is one; or between these root
-- boxes of a BMFF file and those.
pub data Split : Type 0 where
  of_segments : List Segment → List Segment → Option ℕ → Split
  of_boxes : List Box → List Box → Split

-- packets before these segments can have this number: no packet among them has it
pub record CanNumber (back : List Segment) (en : ℕ) : Type 0 where
  pub most : en < 2 ^ 16
  pub unused : is_taken back en ≡ false

-- packets between these segments can have the number that is given; where none is, no number is free in the file
abbrev pub IsNumbered : List Segment → List Segment → Option ℕ → Type 0
IsNumbered front back None = IsNumberOf (front ++ back) None
IsNumbered front back (Some en) = CanNumber back en

-- The file is split so: these are its segments, or its root boxes. Some root box stands before the place, as a BMFF
-- file begins with its file type box.
abbrev pub IsSplit : List ℕ → Split → Type 0
IsSplit base (of_segments front back number) = IsOfSegments base (front ++ back) × IsNumbered front back number
IsSplit base (of_boxes front back) = (is_bmff base ≡ true) × HasRoots base (front ++ back) × (0 < length front)

-- no store begins among the segments of a split, or none of its root boxes has a part in one
abbrev pub IsFree : Split → Type 0
IsFree (of_segments front back number) = NoneBegins (front ++ back)
IsFree (of_boxes front back) = AreOthers (front ++ back)

-- each of these boxes says its size, so another can come behind them
abbrev pub AreClosed : List Box → Type 0
AreClosed boxes = AllByRecursion (λ (b : Box). is_to_end b.form ≡ false) boxes

-- something can be put in at a split: there is a number for packets; or the boxes before the place say their sizes, and
-- the file may have one box more
abbrev pub HasRoom : Split → Type 0
HasRoom (of_segments front back number) = (en : ℕ) × (number ≡ Some en)
HasRoom (of_boxes front back) = AreClosed front × (length (front ++ back) < most_roots)

-- the position of the first byte that is put in at a split
abbrev pub split_start : Split → ℕ
split_start (of_segments front back number) = place_after front
split_start (of_boxes front back) = boxes_len front

-- ---- what is put in

-- how many bytes are put in at a split of a store of so many
abbrev pub split_len : Split → ℕ → ℕ
split_len (of_segments front back number) size = segments_len size
split_len (of_boxes front back) size = c2pa_frame_len + size

-- a store that can be put in at a split: into packets, or into a box
abbrev pub IsSplitStore : Split → List ℕ → Type 0
IsSplitStore (of_segments front back number) store = IsPacketStore store
IsSplitStore (of_boxes front back) store = IsBoxStore store

-- what is put in at a split of a store of these bytes: its packets, where there is a number for them; or its box
abbrev pub split_piece : Split → List ℕ → Option (List ℕ)
split_piece (of_segments front back number) store = option_map (packets_bytes store) number
split_piece (of_boxes front back) store = Some (box_bytes (c2pa_box store))

-- the file where these bytes are put in at a split
abbrev pub split_file : List ℕ → Split → List ℕ → List ℕ
split_file base s piece = put_in (split_start s) piece base

-- Between these segments or root boxes of a file there is room for a store of so many bytes, whatever they are:
-- something can be put there, and neither the store nor the new file is too large.
pub record HasRoomFor (base : List ℕ) (s : Split) (size : ℕ) : Type 0 where
  pub split : IsSplit base s
  pub room : HasRoom s
  pub small : size ≤ MAX_STORE_LEN
  pub fits : length base + split_len s size < FILE_LEN_LIMIT

-- This store can be put into a file at a split: there is room for it, it can go into packets or into a box, and the
-- file has no store.
pub record CanHold (base : List ℕ) (s : Split) (store : List ℕ) : Type 0 where
  pub room : HasRoomFor base s (length store)
  pub free : IsFree s
  pub stored : IsSplitStore s store

-- ---- the binding

-- what the exclusions of a new BMFF hash leave of root boxes between which a box of so many bytes is put in: those
-- before it where they were, and those behind it so many places later
abbrev pub boxes_text : ℕ → List Box → List Box → List ℕ
boxes_text len front back =
    flat_map built_part (placed_from 0 front) ++ flat_map built_part (placed_from (boxes_len front + len) back)

-- what the new binding binds of a file where so many bytes are put in: the file without them, or what the exclusions
-- leave of it
abbrev pub split_text : List ℕ → Split → ℕ → List ℕ
split_text base (of_segments front back number) len = base
split_text base (of_boxes front back) len = boxes_text len front back

-- the binding of a new store at a split, with this digest by an algorithm, where so many bytes are put in
abbrev pub split_binding : Alg → Split → ℕ → List ℕ → NewAssertion
split_binding alg (of_segments front back number) len digest = data_binding alg (place_after front) len digest
split_binding alg (of_boxes front back) len digest = new_bmff_binding alg digest

-- the binding of a new store at a split with the digest of what it binds of a file, where so many bytes are put in
abbrev pub binding_at : (List ℕ → List ℕ) → Alg → List ℕ → Split → ℕ → NewAssertion
binding_at hash alg base s len = split_binding alg s len (hash (split_text base s len))
