-- Worked rows: the film of one chunk, with one field, and what is refused of others like it.
use Rattle.std.proofs.Common.{◌≡◌, ℕ, false, List, [], ◌∷◌, ◌++◌, refl, codes}
use Rattle.c2_spec.specs.Bmff.Boxes.{Box, short, box_bytes, box_fault}
use Rattle.c2_bmff_rows.specs.Rows.{rows_of}
use Rattle.c2_bmff_chunks.specs.Fields.{overflow_places}
use Rattle.c2_bmff_chunks.specs.Refusals.{shift_refusals}
use Rattle.c2_bmff_chunks.specs.Shifted.{shifted}
use Rattle.c2_bmff_chunks.specs.Tables.{chunk_tables}
use Rattle.c2_bmff_chunks.specs.declared.table.ShiftError.TheVariants.{OffsetTable, BadTree, BadTable}

-- a box that says its size in 4 bytes
abbrev boxed : List ℕ → List ℕ → Box
boxed kind payload = record { form = short; kind = kind; payload = payload }

-- the boxes on the path around a list of boxes
abbrev around : List ℕ → Box
around siblings =
    boxed (codes "moov")
    (box_bytes (boxed (codes "trak") (box_bytes (boxed (codes "mdia") (box_bytes (boxed (codes "minf") (box_bytes (boxed (codes "stbl") siblings))))))))

-- the table with these bytes after its count and before the field
abbrev table : List ℕ → List ℕ → List ℕ
table count field = box_bytes (boxed (codes "stco") (0 ∷ 0 ∷ 0 ∷ 0 ∷ count ++ field))

-- a film of a file type box, these boxes inside `stbl`, and one byte of media
abbrev film : List ℕ → List Box
film siblings =
    boxed (codes "ftyp") (codes "isom" ++ 0 ∷ 0 ∷ 0 ∷ 0 ∷ []) ∷ around siblings ∷ boxed (codes "mdat") (0x41 ∷ []) ∷ []

-- the bytes of boxes
abbrev bytes_of : List Box → List ℕ
bytes_of [] = []
bytes_of (b ∷ bs) = box_bytes b ++ bytes_of bs

-- one field
abbrev one : List ℕ
one = 0 ∷ 0 ∷ 0 ∷ 1 ∷ []

-- the film whose field tells where its byte of media is, 84
abbrev film_q : List ℕ
film_q = table one (0 ∷ 0 ∷ 0 ∷ 84 ∷ [])

-- the film with a field for 84 has one table, of one field at 72
q_tables : chunk_tables (bytes_of (film film_q)) (rows_of (film film_q)) ≡ record { first = 72; count = 1; wide = false } ∷ []
unfolding chunk_tables box_fault
q_tables = refl

-- nothing is refused of the film with a field for 84
q_none : shift_refusals (bytes_of (film film_q)) (rows_of (film film_q)) ≡ []
unfolding shift_refusals box_fault
q_none = refl

-- where a box of 1,220 bytes is put in behind its file type box, the field tells 1,304
q_shifted : shifted 16 1220 (record { first = 72; count = 1; wide = false } ∷ []) (bytes_of (film film_q)) ≡ bytes_of (film (table one (0 ∷ 0 ∷ 5 ∷ 24 ∷ [])))
q_shifted = refl

-- the greatest place in 4 bytes can't be moved
q_overflow : overflow_places 16 1220 (bytes_of (film (table one (255 ∷ 255 ∷ 255 ∷ 255 ∷ [])))) (record { first = 72; count = 1; wide = false } ∷ []) ≡ 72 ∷ []
q_overflow = refl

-- a table that states two fields and has one
q_count : shift_refusals (bytes_of (film (table (0 ∷ 0 ∷ 0 ∷ 2 ∷ []) (0 ∷ 0 ∷ 0 ∷ 84 ∷ [])))) (rows_of (film (table (0 ∷ 0 ∷ 0 ∷ 2 ∷ []) (0 ∷ 0 ∷ 0 ∷ 84 ∷ [])))) ≡ BadTable 56 ∷ []
unfolding shift_refusals box_fault
q_count = refl

-- a root box `meta` at the end
q_meta : shift_refusals (bytes_of (film film_q ++ boxed (codes "meta") [] ∷ [])) (rows_of (film film_q ++ boxed (codes "meta") [] ∷ [])) ≡ OffsetTable 85 ∷ []
unfolding shift_refusals box_fault
q_meta = refl

-- auxiliary offsets beside a table that hasn't its form
q_saio : shift_refusals (bytes_of (film (box_bytes (boxed (codes "saio") []) ++ table [] []))) (rows_of (film (box_bytes (boxed (codes "saio") []) ++ table [] []))) ≡ OffsetTable 56 ∷ BadTable 64 ∷ []
unfolding shift_refusals box_fault
q_saio = refl

-- a byte that is no box
q_tree : shift_refusals (bytes_of (film (0 ∷ []))) (rows_of (film (0 ∷ []))) ≡ BadTree 48 ∷ []
unfolding shift_refusals box_fault
q_tree = refl
