-- The root boxes of a file, as rows; and how far a walk over them came, for private clauses.
use Rattle.std.specs.Prelude.{◌≡◌, ℕ, ◌+◌, ◌<◌, ◌≤◌, List, [], ◌∷◌, ◌++◌, length, take, drop, ◌^◌, Option, Some, None}
use Rattle.std.specs.List.{flat_map, sum_by, AllByRecursion}
use Rattle.c2_spec.specs.Bmff.Boxes.{Box, IsSizedBox, AreBoxForms, HasRoots, box_bytes, boxes_len}
use Rattle.c2_bmff_boxes.specs.declared.header.BoxHead.{BoxHead}
use Rattle.c2_bmff_rows.specs.declared.row.RootBox.{RootBox}
use Rattle.c2_bmff_rows.specs.Rows.{rows_of}

-- The rows are those of the root boxes of the file.
pub record AreRootsOf (file : List ℕ) (rows : List RootBox) : Type 0 where
  pub boxes : List Box
  pub has_roots : HasRoots file boxes
  pub are : rows ≡ rows_of boxes

-- Each row begins where the one before it ends, from `low` on, has its header in it, and the last ends at `size`.
abbrev pub FillSource : ℕ → ℕ → List RootBox → Type 0
FillSource size low [] = low ≡ size
FillSource size low (r ∷ rs) =
    (r.start ≡ low) × (r.header ≤ r.length) × (8 ≤ r.header) × FillSource size (low + r.length) rs

-- The rows fill some part of a source, up to a place in it.
pub record FillFile (rows : List RootBox) : Type 0 where
  pub low : ℕ
  pub size : ℕ
  pub fill : FillSource size low rows
  pub small : size < 2 ^ 64

-- the length of the row of this index, where one is given
abbrev pub skipped_len : Option ℕ → List RootBox → ℕ
skipped_len None rows = 0
skipped_len (Some i) rows = sum_by (λ (r : RootBox). r.length) (take 1 (drop i rows))

-- ---- for private clauses

-- the row of a header that begins at `start`
abbrev pub row_at : ℕ → BoxHead → RootBox
row_at start h = record {
  start = start;
  length = h.length;
  header = h.header;
  kind = h.kind;
  to_end = h.to_end;
}

-- These boxes stand up to `at`, and are kept in these rows.
pub record Walks (file : List ℕ) (at : ℕ) (rows : List RootBox) : Type 0 where
  pub boxes : List Box
  pub bytes : file ≡ flat_map box_bytes boxes ++ drop at file
  pub place : boxes_len boxes ≡ at
  pub sized : at < length file → AllByRecursion IsSizedBox boxes
  pub forms : AreBoxForms boxes
  pub are : rows ≡ rows_of boxes
