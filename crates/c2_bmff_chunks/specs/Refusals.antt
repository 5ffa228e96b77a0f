-- What stands in the way of moving the media data of a BMFF file, as a whole list in its order. Which offsets are refused, and the order,
-- are this project's own choice.
use Rattle.std.specs.Prelude.{◌≡◌, ℕ, Bool, ◌||◌, List, [], ◌∷◌, ◌++◌, codes, if◌then◌else◌}
use Rattle.std.specs.Option.{option_map_or}
use Rattle.std.specs.List.{flat_map}
use Rattle.std.specs.Str.{bytes_eq}
use Rattle.c2_bmff_rows.specs.Rows.{payload_at}
use Rattle.c2_bmff_rows.specs.declared.row.RootBox.{RootBox}
use Rattle.c2_bmff_chunks.specs.Tables.{inner, is_table, is_table_kind, table_path, wide_kind}
use Rattle.c2_bmff_chunks.specs.declared.table.ShiftError.{ShiftError}
use Rattle.c2_bmff_chunks.specs.declared.table.ShiftError.TheVariants.{OffsetTable, BadTree, BadTable}

-- a root box of this type holds offsets that aren't known here: of a fragment (8.8.4), of all fragments (8.8.9), or of items (8.11.1)
abbrev pub is_other_table : List ℕ → Bool
is_other_table kind =
    bytes_eq kind (codes "moof") || (bytes_eq kind (codes "mfra") || bytes_eq kind (codes "meta"))

-- what is refused of root boxes by their types alone
abbrev pub root_refusals : List RootBox → List ShiftError
root_refusals rows =
    flat_map (λ (r : RootBox). if is_other_table r.kind then OffsetTable r.start ∷ [] else []) rows

-- what is refused of a box inside `stbl`: offsets of auxiliary information (8.7.9), and a chunk table that hasn't its form
abbrev pub sibling_refusals : List ℕ → RootBox → List ShiftError
sibling_refusals file r =
    if bytes_eq r.kind (codes "saio") then OffsetTable r.start ∷ []
    else if is_table_kind r.kind
    then (if is_table (bytes_eq r.kind wide_kind) (payload_at file r) then [] else BadTable r.start ∷ [])
    else []

-- what is refused of boxes of these types, each inside one before it, from the boxes of these rows on: a box that no list of boxes fills,
-- and else what is refused inside it
abbrev pub refusals_below : List ℕ → List (List ℕ) → List RootBox → List ShiftError
refusals_below file [] rows = flat_map (sibling_refusals file) rows
refusals_below file (kind ∷ kinds) rows =
    flat_map (λ (r : RootBox). if bytes_eq r.kind kind
    then option_map_or (refusals_below file kinds) (inner file r) (BadTree r.start ∷ [])
    else []) rows

-- all that is refused of a file with these root boxes, in its order: first what the root boxes are, then the path to tables, a box before
-- those inside it and before those behind it
unfoldable pub shift_refusals : List ℕ → List RootBox → List ShiftError
shift_refusals file roots = root_refusals roots ++ refusals_below file table_path roots

-- of these refusals this is the first
pub record IsFirstRefusal (refusals : List ShiftError) (e : ShiftError) : Type 0 where
  pub others : List ShiftError
  pub first : refusals ≡ e ∷ others
