-- For private clauses: how far the walk over boxes came.
use Rattle.std.specs.Prelude.{◌≡◌, ℕ, ◌+◌, ◌≤◌, ⊤, true, false, List, [], ◌∷◌, ◌++◌, Option, Some, None}
use Rattle.std.specs.List.{AllByRecursion}
use Rattle.std.specs.Str.{bytes_eq}
use Rattle.c2_bmff_rows.specs.Rows.{payload_at}
use Rattle.c2_bmff_rows.specs.declared.row.RootBox.{RootBox}
use Rattle.c2_bmff_boxes.specs.Roots.{FillSource}
use Rattle.c2_bmff_chunks.specs.Tables.{StandApart, is_table, table_len, table_of, wide_kind}
use Rattle.c2_bmff_chunks.specs.declared.table.ChunkTable.{ChunkTable}

-- The rows are of boxes one after the other in a source of so many bytes.
pub record LieIn (len : ℕ) (rows : List RootBox) : Type 0 where
  pub low : ℕ
  pub high : ℕ
  pub fill : FillSource high low rows
  pub inside : high ≤ len

-- Of these rows, those are left that begin with the first one of this type.
pub record Skips (kind : List ℕ) (rows rest : List RootBox) : Type 0 where
  pub before : List RootBox
  pub split : rows ≡ before ++ rest
  pub others : AllByRecursion (λ (r : RootBox). bytes_eq r.kind kind ≡ false) before

-- the first of these rows, where there is one, is of this type
abbrev pub IsFirstKind : List ℕ → List RootBox → Type 0
IsFirstKind kind [] = ⊤
IsFirstKind kind (r ∷ rs) = bytes_eq r.kind kind ≡ true

-- the table in a box, or none where the box hasn't its form
abbrev pub IsTableOr : List ℕ → RootBox → Option ChunkTable → Type 0
IsTableOr file r None = is_table (bytes_eq r.kind wide_kind) (payload_at file r) ≡ false
IsTableOr file r (Some t) = (is_table (bytes_eq r.kind wide_kind) (payload_at file r) ≡ true) × (t ≡ table_of file r)

-- the table fills the rest of its box
abbrev pub FillsBox : RootBox → ChunkTable → Type 0
FillsBox r t = (r.start + r.header ≤ t.first) × (t.first + table_len t ≡ r.start + r.length)

-- tables that stand apart up to these boxes still do up to their end
abbrev pub StaysApart : List RootBox → List ChunkTable → List ChunkTable → Type 0
StaysApart rows old new = (low high : ℕ) → FillSource high low rows → StandApart 0 low old → StandApart 0 high new
