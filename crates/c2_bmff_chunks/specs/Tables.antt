-- The chunk tables of a BMFF file (ISO/IEC 14496-12, 8.7.5): the `stco` and `co64` boxes on one path, by the rows of its boxes.
use Rattle.std.specs.Prelude.{ℕ, ◌+◌, ◌*◌, ◌^◌, ◌<◌, ◌≤◌, nat_le, Bool, ◌&&◌, ◌||◌, ◌==◌, List, [], ◌∷◌, length, take, drop, map, filter, codes, if◌then◌else◌}
use Rattle.std.specs.declared.option.Option.{Option}
use Rattle.std.specs.Option.{option_map_or}
use Rattle.std.specs.Int.{w32, from_be_bytes}
use Rattle.std.specs.List.{flat_map}
use Rattle.std.specs.Str.{bytes_eq}
use Rattle.c2_bmff_rows.specs.Children.{child_rows}
use Rattle.c2_bmff_rows.specs.Rows.{payload_at}
use Rattle.c2_bmff_rows.specs.declared.row.RootBox.{RootBox}
use Rattle.c2_bmff_chunks.specs.declared.table.ChunkTable.{ChunkTable}

-- ---- the form of a table

-- the type of a table whose fields have 4 bytes
abbrev pub short_kind : List ℕ
short_kind = codes "stco"

-- the type of a table whose fields have 8 bytes
abbrev pub wide_kind : List ℕ
wide_kind = codes "co64"

-- a box of this type is a chunk table
abbrev pub is_table_kind : List ℕ → Bool
is_table_kind kind = bytes_eq kind short_kind || bytes_eq kind wide_kind

-- how many bytes a field has
abbrev pub field_len : Bool → ℕ
field_len wide = if wide then 8 else 4

-- how many bytes so many fields have
abbrev pub fields_len : Bool → ℕ → ℕ
fields_len wide count = if wide then 8 * count else 4 * count

-- how many fields a payload states that it has
abbrev pub stated_count : List ℕ → ℕ
stated_count payload = from_be_bytes w32 (take 4 (drop 4 payload))

-- a payload has the form of a table: 4 bytes that pass unread, the number of fields in 4 bytes, and these fields and nothing else
abbrev pub is_table : Bool → List ℕ → Bool
is_table wide payload =
    nat_le 8 (length payload) && (length payload == 8 + fields_len wide (stated_count payload))

-- the table in the box of this row
abbrev pub table_of : List ℕ → RootBox → ChunkTable
table_of file r = record {
  first = r.start + r.header + 8;
  count = stated_count (payload_at file r);
  wide = bytes_eq r.kind wide_kind;
}

-- ---- the tables of a file

-- the types of the boxes on the path to tables, each inside one of the type before it
abbrev pub table_path : List (List ℕ)
table_path = codes "moov" ∷ codes "trak" ∷ codes "mdia" ∷ codes "minf" ∷ codes "stbl" ∷ []

-- the rows of the boxes that fill the box of this row, or none where no list of boxes that say their sizes does
abbrev pub inner : List ℕ → RootBox → Option (List RootBox)
inner file r = child_rows (length (payload_at file r)) (r.start + r.header) (payload_at file r)

-- the tables among the boxes of these rows, in file order
abbrev pub tables_among : List ℕ → List RootBox → List ChunkTable
tables_among file rows =
    map (table_of file) (filter (λ (r : RootBox). is_table_kind r.kind) rows)

-- the tables that stand in boxes of these types, each inside one before it, from the boxes of these rows on
abbrev pub tables_below : List ℕ → List (List ℕ) → List RootBox → List ChunkTable
tables_below file [] rows = tables_among file rows
tables_below file (kind ∷ kinds) rows =
    flat_map (λ (r : RootBox). if bytes_eq r.kind kind
    then option_map_or (tables_below file kinds) (inner file r) []
    else []) rows

-- the chunk tables of a file with these root boxes, in file order
unfoldable pub chunk_tables : List ℕ → List RootBox → List ChunkTable
chunk_tables file roots = tables_below file table_path roots

-- ---- where they stand

-- how many bytes the fields of a table have
abbrev pub table_len : ChunkTable → ℕ
table_len t = fields_len t.wide t.count

-- Tables whose fields stand one after the other, from a place on and up to another.
abbrev pub StandApart : ℕ → ℕ → List ChunkTable → Type 0
StandApart low high [] = low ≤ high
StandApart low high (t ∷ ts) = (low ≤ t.first) × StandApart (t.first + table_len t) high ts

-- Tables that stand apart in some source.
pub record StandInSource (ts : List ChunkTable) : Type 0 where
  pub high : ℕ
  pub apart : StandApart 0 high ts
  pub small : high < 2 ^ 64
