-- The fields of chunk tables, and the places in the file that they hold (ISO/IEC 14496-12, 8.7.5).
use Rattle.std.specs.Prelude.{ℕ, zero, suc, ◌+◌, ◌^◌, ◌<◌, ◌≤◌, nat_le, nat_lt, Bool, ◌&&◌, List, [], ◌∷◌, take, drop, map, filter, if◌then◌else◌}
use Rattle.std.specs.Int.{w32, w64, from_be_bytes, to_be_bytes}
use Rattle.std.specs.List.{flat_map}
use Rattle.c2_bmff_chunks.specs.Tables.{field_len}
use Rattle.c2_bmff_chunks.specs.declared.table.ChunkTable.{ChunkTable}
use Rattle.c2_bmff_chunks.specs.declared.table.Field.{Field}

-- so many fields, one after the other from a place on
abbrev pub fields_from : Bool → ℕ → ℕ → List Field
fields_from wide at zero = []
fields_from wide at (suc n) =
    record { at = at; wide = wide } ∷ fields_from wide (at + field_len wide) n

-- the fields of a table
abbrev pub fields_of : ChunkTable → List Field
fields_of t = fields_from t.wide t.first t.count

-- the fields of these tables, in their order
abbrev pub all_fields : List ChunkTable → List Field
all_fields ts = flat_map fields_of ts

-- a position of the file lies in a field
abbrev pub Covers : Field → ℕ → Type 0
Covers f i = (f.at ≤ i) × (i < f.at + field_len f.wide)

-- ---- the numbers in them

-- the number in the field at a place
abbrev pub number_at : Bool → List ℕ → ℕ → ℕ
number_at wide file at =
    if wide then from_be_bytes w64 (take 8 (drop at file)) else from_be_bytes w32 (take 4 (drop at file))

-- a number as the bytes of a field
abbrev pub number_bytes : Bool → ℕ → List ℕ
number_bytes wide n = if wide then to_be_bytes w64 n else to_be_bytes w32 n

-- the numbers that a field can hold are below this
abbrev pub field_limit : Bool → ℕ
field_limit wide = if wide then 2 ^ 64 else 2 ^ 32

-- what a field with this number has once all bytes from `from` on are moved by so many: a place from there on is as much greater, where
-- the sum fits into the field; every other number stays
abbrev pub moved : Bool → ℕ → ℕ → ℕ → ℕ
moved wide from by v = if nat_le from v && nat_lt (v + by) (field_limit wide) then v + by else v

-- ---- what doesn't fit

-- the place in this field is moved, and the sum doesn't fit into the field
abbrev pub overflows : ℕ → ℕ → List ℕ → Field → Bool
overflows from by file f =
    nat_le from (number_at f.wide file f.at)
    && nat_le (field_limit f.wide) (number_at f.wide file f.at + by)

-- where the fields among these begin whose sums don't fit
abbrev pub places_of : ℕ → ℕ → List ℕ → List Field → List ℕ
places_of from by file fs = map (λ (f : Field). f.at) (filter (overflows from by file) fs)

-- where the fields of these tables begin whose sums don't fit, in their order
abbrev pub overflow_places : ℕ → ℕ → List ℕ → List ChunkTable → List ℕ
overflow_places from by file ts = places_of from by file (all_fields ts)
