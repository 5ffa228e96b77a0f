-- The file with the box of a store put in after its first root box, where the places in its chunk tables from there on are greater by the
-- length of that box (C2PA Technical Specification 2.x, "Embedding manifests into assets"; ISO/IEC 14496-12, 8.7.5).
use Rattle.std.specs.Prelude.{◌≡◌, ℕ, ◌+◌, ◌<◌, ◌≤◌, List, length, replicate}
use Rattle.c2_base.specs.declared.limits.TheConstants.{FILE_LEN_LIMIT, MAX_STORE_LEN}
use Rattle.c2_spec.specs.Bmff.Boxes.{box_bytes}
use Rattle.c2_spec.specs.Bmff.Writing.{c2pa_box, c2pa_frame_len}
use Rattle.c2_spec.specs.PutIn.{put_in}
use Rattle.c2_bmff_chunks.specs.Shifted.{shifted}
use Rattle.c2_bmff_chunks.specs.Tables.{StandApart}
use Rattle.c2_bmff_binding_front.specs.declared.front.Front.{Front}

-- how many bytes the box of the new store has
abbrev pub range_of : Front → ℕ
range_of f = c2pa_frame_len + f.store_len

-- the file with moved places
abbrev pub moved : Front → List ℕ → List ℕ
moved f file = shifted f.place (range_of f) f.tables file

-- the file with moved places, with the box of a store put in
abbrev pub with_store : Front → List ℕ → List ℕ → List ℕ
with_store f store file = put_in f.place (box_bytes (c2pa_box store)) (moved f file)

-- the file whose new store is of zero bytes, as many as the new store has
abbrev pub with_blank : Front → List ℕ → List ℕ
with_blank f file = with_store f (replicate f.store_len 0) file

-- This can be done in a file of so many bytes: the fields of the tables and the place lie in it, and neither the new store nor the new file is
-- too large.
pub record FitsIn (len : ℕ) (f : Front) : Type 0 where
  pub size : f.size ≡ len
  pub tables : StandApart 0 len f.tables
  pub place : f.place ≤ len
  pub small : f.store_len ≤ MAX_STORE_LEN
  pub short : len + range_of f < FILE_LEN_LIMIT

-- A piece can be put into a file of so many bytes at this place.
pub record FitsPiece (len place : ℕ) (piece : List ℕ) : Type 0 where
  pub inside : place ≤ len
  pub short : len + length piece < FILE_LEN_LIMIT

-- This can be done in a file of so many bytes with a piece that is as long as the box of the new store.
pub record FitsMoved (len : ℕ) (f : Front) (piece : List ℕ) : Type 0 where
  pub fits : FitsIn len f
  pub size : length piece ≡ range_of f
