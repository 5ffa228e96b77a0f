-- A BMFF file less the box of an older store, byte by byte: a range is cut out, or a box is freed where it stands.
use Rattle.std.specs.Prelude.{◌≡◌, ℕ, ◌+◌, ◌-◌, ◌==◌, min, Bool, true, false, List, [], ◌∷◌, ◌++◌, length, map, take, drop, replicate, codes, Option, Some, None, if◌then◌else◌}
use Rattle.std.specs.Str.{bytes_eq}
use Rattle.c2_base.specs.declared.media.Found.{Found}
use Rattle.c2_base.specs.declared.values.Range.{Range}
use Rattle.c2_spec.specs.Bmff.Boxes.{Box, HasRoots}
use Rattle.c2_spec.specs.Bmff.Writing.{IsBmffBase, mfra_kind}
use Rattle.c2_spec.specs.PutIn.{taken_out}
use Rattle.c2_bmff_rows.specs.Rows.{rows_of}
use Rattle.c2_bmff_rows.specs.declared.row.RootBox.{RootBox}
use Rattle.c2_without_store.specs.declared.clearing.Clearing.{Clearing}
use Rattle.c2_without_store.specs.declared.clearing.Clearing.TheVariants.{Cut, Freed}

-- A list with its places from one on replaced by those of a piece, as far as the list goes.
abbrev pub written_at : ℕ → List ℕ → List ℕ → List ℕ
written_at at piece xs =
    take at xs ++ (take (length xs - at) piece ++ drop (at + length piece) xs)

-- a file with the box of this row freed: its type is `free`, and zero bytes stand behind its header
abbrev pub freed_in : RootBox → List ℕ → List ℕ
freed_in r file =
    written_at (r.start + r.header) (replicate (r.length - r.header) 0)
    (written_at (r.start + 4) (codes "free") file)

-- a file that is cleared
abbrev pub cleared : Clearing → List ℕ → List ℕ
cleared (Cut range) file = taken_out range.start range.length file
cleared (Freed row) file = freed_in row file

-- how long a file of so many bytes is less a range
abbrev pub cut_len : Range → ℕ → ℕ
cut_len range size = min range.start size + (size - (range.start + range.length))

-- how long a file of so many bytes is then
abbrev pub cleared_len : Clearing → ℕ → ℕ
cleared_len (Cut range) size = cut_len range size
cleared_len (Freed row) size = size

-- What is left of this file is its base.
abbrev pub ClearsTo : List ℕ → Clearing → Type 0
ClearsTo file c = (roots : List Box) × IsBmffBase file (cleared c file) roots

-- ---- the box that is cleared away

-- no rows, or that of one `mfra`
abbrev pub ends_file : List RootBox → Bool
ends_file [] = true
ends_file (r ∷ []) = bytes_eq r.kind mfra_kind
ends_file (r ∷ s ∷ rs) = false

-- nothing is cut out
abbrev pub no_range : Range
no_range = record { start = 0; length = 0 }

-- where the box of a row stands
abbrev pub row_range : RootBox → Range
row_range r = record { start = r.start; length = r.length }

-- How the box of these rows that begins at this place is cleared away: it is cut out where nothing but a last `mfra` follows, and freed
-- elsewhere. Nothing is cleared away where none begins there.
abbrev pub clearing_in : ℕ → List RootBox → Clearing
clearing_in start [] = Cut no_range
clearing_in start (r ∷ rs) =
    if r.start == start then (if ends_file rs then Cut (row_range r) else Freed r)
    else clearing_in start rs

-- how a file with these root boxes is cleared of what was found in it
abbrev pub root_clearing : Option Found → List RootBox → Clearing
root_clearing None rows = Cut no_range
root_clearing (Some f) rows = clearing_in f.start rows

-- The rows are those of the root boxes of what is left of this file, which is its base.
pub record AreRootsLeft (file : List ℕ) (c : Clearing) (rows : List RootBox) : Type 0 where
  pub boxes : List Box
  pub base : IsBmffBase file (cleared c file) boxes
  pub has_roots : HasRoots (cleared c file) boxes
  pub are : rows ≡ rows_of boxes

-- ---- for private clauses

-- the part of a list from a place on, where a piece replaces what stands in the whole list from `at` on
abbrev pub written_from : ℕ → ℕ → List ℕ → List ℕ → List ℕ
written_from from at piece xs = written_at (at - from) (drop (from - at) piece) xs

-- the row of a box that is freed
abbrev pub freed_row : RootBox → RootBox
freed_row r = record r { kind = codes "free" }

-- the row of a box that begins so many bytes earlier
abbrev pub moved_row : ℕ → RootBox → RootBox
moved_row n r = record r { start = r.start - n }

-- the rows that are left of these, once the box of the first is cleared away
abbrev pub rows_behind : RootBox → List RootBox → List RootBox
rows_behind r rs = if ends_file rs then map (moved_row r.length) rs else freed_row r ∷ rs

-- the same where the box that begins at this place is
abbrev pub rows_left : ℕ → List RootBox → List RootBox
rows_left start [] = []
rows_left start (r ∷ rs) =
    if r.start == start then rows_behind r rs else r ∷ rows_left start rs
