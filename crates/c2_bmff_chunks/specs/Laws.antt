-- What holds of chunk tables and of files with moved places, as statements.
use Rattle.std.specs.Prelude.{◌≡◌, ℕ, ◌+◌, ◌^◌, ◌<◌, ◌≤◌, true, List, [], length, take, drop, map, get_or, All, Contains}
use Rattle.std.specs.List.{AllByRecursion}
use Rattle.c2_spec.specs.Bmff.Boxes.{Box, HasRoots, boxes_len, header_len}
use Rattle.c2_spec.specs.Bmff.Paths.{PlacedBox, placed_from}
use Rattle.c2_spec.specs.Bmff.Store.{is_other_box}
use Rattle.c2_spec.specs.PutIn.{put_in}
use Rattle.c2_bmff_rows.specs.Rows.{rows_of}
use Rattle.c2_bmff_chunks.specs.Fields.{Covers, all_fields, number_at, overflow_places}
use Rattle.c2_bmff_chunks.specs.Refusals.{shift_refusals}
use Rattle.c2_bmff_chunks.specs.Shifted.{IsShifted, shifted}
use Rattle.c2_bmff_chunks.specs.Tables.{StandApart, chunk_tables}
use Rattle.c2_bmff_chunks.specs.declared.table.ChunkTable.{ChunkTable}
use Rattle.c2_bmff_chunks.specs.declared.table.Field.{Field}

-- ---- one file

-- a file's bytes are below 2^8
abbrev pub AreBytes : List ℕ → Type 0
AreBytes file = All (λ b. b < 2 ^ 8) file

-- Where tables stand apart in a file, one file at most is that file with moved places.
abbrev pub OneShifted : Type 0
OneShifted = (from by : ℕ) (ts : List ChunkTable) (file a b : List ℕ) → StandApart 0 (length file) ts
    → IsShifted from by ts file a → IsShifted from by ts file b → a ≡ b

-- Where tables stand apart in a file of bytes, the file with its fields put over it is that file with moved places.
abbrev pub SomeShifted : Type 0
SomeShifted = (from by : ℕ) (ts : List ChunkTable) (file : List ℕ) → AreBytes file → StandApart 0 (length file) ts
    → IsShifted from by ts file (shifted from by ts file)

-- ---- its boxes

-- The chunk tables of a file of which nothing is refused stand apart in it.
abbrev pub TablesStandApart : Type 0
TablesStandApart = (file : List ℕ) (roots : List Box) → AreBytes file → HasRoots file roots
    → shift_refusals file (rows_of roots) ≡ [] → StandApart 0 (length file) (chunk_tables file (rows_of roots))

-- a box in its form, with what a file has after the header at the box's place
abbrev pub box_in : List ℕ → PlacedBox → Box
box_in file p = record {
  form = p.box.form;
  kind = p.box.kind;
  payload = take (length p.box.payload) (drop (p.at + header_len p.box.form) file);
}

-- boxes that stand one after the other from the start of a file, each with what that file has after its header
abbrev pub roots_in : List ℕ → List Box → List Box
roots_in file roots = map (box_in file) (placed_from 0 roots)

-- The new file has the root boxes that the file had, in their forms and with what they hold in it. It begins with the same two bytes, its
-- first box is as long, and if no box had a part in a store, none has.
pub record HasShiftedRoots (file new : List ℕ) (roots : List Box) : Type 0 where
  pub has_roots : HasRoots new (roots_in new roots)
  pub starts : take 2 new ≡ take 2 file
  pub first : boxes_len (take 1 (roots_in new roots)) ≡ boxes_len (take 1 roots)
  pub forms : map (λ (b : Box). b.form) (roots_in new roots) ≡ map (λ (b : Box). b.form) roots
  pub count : length (roots_in new roots) ≡ length roots
  pub others : AllByRecursion (λ (b : Box). is_other_box b ≡ true) roots
      → AllByRecursion (λ (b : Box). is_other_box b ≡ true) (roots_in new roots)

-- A file of which nothing is refused has the same root boxes once the places in its chunk tables are moved.
abbrev pub RootsAreShifted : Type 0
RootsAreShifted = (from by : ℕ) (file new : List ℕ) (roots : List Box) → AreBytes file → HasRoots file roots
    → shift_refusals file (rows_of roots) ≡ []
    → IsShifted from by (chunk_tables file (rows_of roots)) file new → HasShiftedRoots file new roots

-- The fields of the chunk tables of a file of which nothing is refused lie behind its first root box.
abbrev pub FieldsLieBehind : Type 0
FieldsLieBehind = (file : List ℕ) (roots : List Box) (f : Field) → AreBytes file → HasRoots file roots
    → shift_refusals file (rows_of roots) ≡ [] → Contains (all_fields (chunk_tables file (rows_of roots))) f
    → boxes_len (take 1 roots) ≤ f.at

-- ---- its chunks

-- A piece is put in at `e` of a file with moved places. A field that held the place `v` of the media holds then where `v` has come to stand;
-- and the byte there is the media's at `v`, unless a field of a chunk table held it.
pub record ChunkStays (e : ℕ) (piece media base : List ℕ) (ts : List ChunkTable) (f : Field) (v : ℕ) : Type 0 where
  pub field : number_at f.wide (put_in e piece base) (f.at + length piece) ≡ v + length piece
  pub byte : ((g : Field) → Contains (all_fields ts) g → Covers g v → ⊥)
      → get_or (put_in e piece base) (v + length piece) 0 ≡ get_or media v 0

-- A field behind `e` that holds a place of the media from `e` on holds the new place of what stood there, where the piece is as long as
-- places from `e` on are moved and no sum is too large for its field.
abbrev pub ChunksStay : Type 0
ChunksStay = (e : ℕ) (piece media base : List ℕ) (ts : List ChunkTable) (f : Field) (v : ℕ)
    → e ≤ length media → overflow_places e (length piece) media ts ≡ []
    → IsShifted e (length piece) ts media base → Contains (all_fields ts) f → e ≤ f.at
    → v ≡ number_at f.wide media f.at → e ≤ v → v < length media → ChunkStays e piece media base ts f v
