-- Where a new store goes in a media file without one, by the file's container, and what depends on it (C2PA Technical Specification 2.x,
-- "Embedding manifests into assets"). The places are this project's own choice.
use Rattle.std.specs.Prelude.{◌≡◌, ℕ, ◌+◌, ◌<◌, ◌≤◌, true, false, List, length, Some, None}
use Rattle.std.specs.declared.option.Option.{Option}
use Rattle.std.specs.Option.{option_map}
use Rattle.c2_base.specs.declared.limits.TheConstants.{MAX_STORE_LEN, FILE_LEN_LIMIT}
use Rattle.c2_base.specs.declared.values.Question.{Question}
use Rattle.c2_spec.specs.Bmff.Boxes.{Box, HasRoots, box_bytes, most_roots}
use Rattle.c2_spec.specs.Bmff.Paths.{placed_from}
use Rattle.c2_spec.specs.Bmff.Writing as bmff
use Rattle.c2_spec.specs.C2pa.Sign1.{SignParts, question_of}
use Rattle.c2_spec.specs.Container.{is_bmff}
use Rattle.c2_spec.specs.Jpeg.Places.{IsOfSegments}
use Rattle.c2_spec.specs.Jpeg.Segments.{Segment}
use Rattle.c2_spec.specs.Jpeg.Store.{NoneBegins}
use Rattle.c2_spec.specs.Jpeg.Writing as jpeg
use Rattle.c2_spec.specs.Jumbf.Tree.{Tree}
use Rattle.c2_spec.specs.PutIn.{put_in}
use Rattle.c2_definition.specs.declared.types.NewAssertion.{NewAssertion}
use Rattle.c2_new_file_spec.specs.Built.{built_len, store_size}
use Rattle.c2_new_file_spec.specs.Store.{Content, data_binding, new_claim, new_store, new_alg}
use Rattle.c2_new_file_spec.specs.Films.{AreOthers, new_bmff_binding, bmff_len, bmff_store_size}
use Rattle.c2_spec.specs.declared.digest.Alg.{Alg}

-- ---- the place

-- Where a new store goes: behind the APP0 segments among these, under the number that is free, where one is; or behind these root
-- boxes, before a last `mfra`.
pub data Place : Type 0 where
  in_segments : List Segment → Option ℕ → Place
  in_boxes : List Box → Place

-- this is the place in a file without a store
abbrev pub IsPlace : List ℕ → Place → Type 0
IsPlace base (in_segments segments number) = (is_bmff base ≡ false) × IsOfSegments base segments × jpeg.IsNumberOf segments number
IsPlace base (in_boxes roots) = (is_bmff base ≡ true) × HasRoots base roots

-- no store begins among these segments, or none of these root boxes has a part in one
abbrev pub IsFree : Place → Type 0
IsFree (in_segments segments number) = NoneBegins segments
IsFree (in_boxes roots) = AreOthers roots

-- The place in a file, which has no store.
pub record IsFreePlace (base : List ℕ) (p : Place) : Type 0 where
  pub is : IsPlace base p
  pub free : IsFree p

-- the position of the first byte that is put in
abbrev pub place_start : Place → ℕ
place_start (in_segments segments number) = jpeg.insert_place segments
place_start (in_boxes roots) = bmff.insert_place roots

-- ---- sizes

-- how many bytes the new store has there, with so many for its message
abbrev pub store_len : Place → Content → ℕ → ℕ
store_len (in_segments segments number) c reserve = store_size c reserve
store_len (in_boxes roots) c reserve = bmff_store_size c reserve

-- how many bytes are put in
abbrev pub range_len : Place → Content → ℕ → ℕ
range_len (in_segments segments number) c reserve = built_len c reserve
range_len (in_boxes roots) c reserve = bmff_len c reserve

-- ---- the binding

-- what the new binding binds: the file without the store, or what its exclusions leave of these root boxes
abbrev pub bound_text : List ℕ → Place → List ℕ
bound_text base (in_segments segments number) = base
bound_text base (in_boxes roots) = bmff.built_text roots

-- the binding with this digest of it by an algorithm, where so many bytes are put in
abbrev pub binding_with : Alg → Place → ℕ → List ℕ → NewAssertion
binding_with alg (in_segments segments number) len digest = data_binding alg (jpeg.insert_place segments) len digest
binding_with alg (in_boxes roots) len digest = new_bmff_binding alg digest

-- the binding over a file without a store, with so many bytes for the message
abbrev pub place_binding : (List ℕ → List ℕ) → Content → ℕ → List ℕ → Place → NewAssertion
place_binding hash c reserve base p = binding_with (new_alg c.definition) p (range_len p c reserve) (hash (bound_text base p))

-- ---- the new file

-- the new store over a file without one
abbrev pub place_store : (List ℕ → List ℕ) → Content → List ℕ → List ℕ → Place → Tree
place_store hash c message base p = new_store hash c (place_binding hash c (length message) base p) message

-- what is put in of a store of these bytes: its packets under the number that is free, and nothing where none is; or its box
abbrev pub put_bytes : Place → List ℕ → Option (List ℕ)
put_bytes (in_segments segments number) store = option_map (jpeg.packets_bytes store) number
put_bytes (in_boxes roots) store = Some (box_bytes (bmff.c2pa_box store))

-- the new file, where these bytes are put in
abbrev pub place_file : List ℕ → Place → List ℕ → List ℕ
place_file base p bytes = put_in (place_start p) bytes base

-- the question of the new manifest, where its message has these parts
abbrev pub place_question : (List ℕ → List ℕ) → Content → ℕ → List ℕ → Place → SignParts → Question
place_question hash c reserve base p parts = question_of parts (new_claim hash c (place_binding hash c reserve base p))

-- ---- room

-- a place has room for a store: a number is free; or the last box isn't open, and the file may have one box more
abbrev pub HasRoom : Place → Type 0
HasRoom (in_segments segments number) = (en : ℕ) × (number ≡ Some en)
HasRoom (in_boxes roots) = (bmff.open_end (placed_from 0 roots) ≡ None) × (length roots < most_roots)

-- A store can be put in at this place of a base, with so many bytes for its message: the store isn't too large, nor is the new file.
pub record CanPut (c : Content) (reserve : ℕ) (base : List ℕ) (p : Place) : Type 0 where
  pub place : IsFreePlace base p
  pub room : HasRoom p
  pub small : store_len p c reserve ≤ MAX_STORE_LEN
  pub fits : length base + range_len p c reserve < FILE_LEN_LIMIT
