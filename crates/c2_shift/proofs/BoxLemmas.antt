-- Boxes on the path to tables, one at a time.
use Rattle.std.proofs.Common.{◌≡◌, ℕ, ◌+◌, ◌-◌, ◌<◌, ◌≤◌, ◌==◌, Bool, true, false, cond, ◌&&◌, List, [], ◌∷◌, ◌++◌, length, get_or, take, drop, map, Option, Some, None, refl, sym, ap, ◌∙◌, subst, arith, append_assoc}
use Rattle.std.specs.Prelude.{All, filter, nat_le}
use Rattle.std.specs.List.{flat_map, AllByRecursion}
use Rattle.std.specs.Option.{option_map_or}
use Rattle.std.specs.Str.{bytes_eq}
use Rattle.std.specs.Int.{w32, from_be_bytes}
use Rattle.std.proofs.lemmas.Bool.{le-leb}
use Rattle.std.proofs.lemmas.List.{drop-drop}
use Rattle.std.proofs.lemmas.List.Elements.{recursion_from_All}
use Rattle.c2_bmff_rows.specs.Rows.{IsBoxWithin, IsRowWithin, payload_at}
use Rattle.c2_bmff_rows.specs.declared.row.RootBox.{RootBox}
use Rattle.c2_bmff_rows.proofs.Lists.{piece_of}
use Rattle.c2_bmff_boxes.proofs.Filling.{fill_end}
use Rattle.c2_bmff_boxes.specs.Children.{rows_between}
use Rattle.c2_bmff_boxes.specs.Roots.{FillSource}
use Rattle.c2_bmff_rows.specs.Children.{child_rows}
use Rattle.c2_bmff_chunks.specs.Fields.{number_at}
use Rattle.c2_bmff_chunks.specs.Refusals.{IsFirstRefusal, is_other_table, refusals_below, root_refusals, sibling_refusals}
use Rattle.c2_bmff_chunks.specs.Tables.{StandApart, fields_len, inner, is_table, is_table_kind, stated_count, table_len, table_of, tables_among, tables_below}
use Rattle.c2_bmff_chunks.specs.declared.table.ChunkTable.{ChunkTable}
use Rattle.c2_bmff_chunks.specs.declared.table.ShiftError.{ShiftError}
use Rattle.c2_bmff_chunks.specs.declared.table.ShiftError.TheVariants.{OffsetTable, BadTree, BadTable, Overflow, ReadFault, NoMemory}
use Rattle.c2_bmff_chunks.proofs.ApartLemmas.{stand_append}
use Rattle.c2_bmff_rows.proofs.StandLemmas.{payload_size}
use Rattle.c2_shift.specs.Causes.{IsTablesCause, OrShiftFault}
use Rattle.c2_shift.specs.Walking.{FillsBox, IsFirstKind, LieIn, Skips}
use Rattle.c2_shift.proofs.PartLemmas.{first_of}

-- ---- rows

-- a row of nothing
abbrev pub no_row : RootBox
no_row = record { start = 0; length = 0; header = 0; kind = []; to_end = false }

-- the first of rows that fill a part, and those after
pub fill_step : (high low : ℕ) (rows : List RootBox) → 0 < length rows → FillSource high low rows
    → ((get_or rows 0 no_row).start ≡ low) × ((get_or rows 0 no_row).header ≤ (get_or rows 0 no_row).length) × (8 ≤ (get_or rows 0 no_row).header) × FillSource high (low + (get_or rows 0 no_row).length) (drop 1 rows)
fill_step high low rows some f = subst (FillSource high low) (first_of rows no_row some) f

-- the first of rows in a source lies in it
pub row_lies : (len : ℕ) (rows : List RootBox) → 0 < length rows → LieIn len rows
    → IsRowWithin len (get_or rows 0 no_row)
row_lies len rows some h =
    let one = fill_step h.high h.low rows some h.fill in
    (omega (arith, one.0, fill_end h.high (h.low + (get_or rows 0 no_row).length) (drop 1 rows) one.3, h.inside), one.1, one.2)

-- rows in a source behind the first lie in it
pub lie_step : (len : ℕ) (rows : List RootBox) → 0 < length rows → LieIn len rows → LieIn len (drop 1 rows)
lie_step len rows some h =
    let one = fill_step h.high h.low rows some h.fill in
    record { low = h.low + (get_or rows 0 no_row).length; high = h.high; fill = one.3; inside = h.inside }

-- ---- tables

-- tables that stand apart up to a place do up to each place behind
pub stand_higher : (low high high' : ℕ) (ts : List ChunkTable) → high ≤ high' → StandApart low high ts
    → StandApart low high' ts
stand_higher low high high' [] l h = omega (arith, l, h)
stand_higher low high high' (t ∷ ts) l h = (h.0, stand_higher (t.first + table_len t) high high' ts l h.1)

-- one more table
pub stand_more : (low : ℕ) (r : RootBox) (t : ChunkTable) (ts : List ChunkTable) → StandApart 0 low ts → low ≤ r.start
    → FillsBox r t → StandApart 0 (r.start + r.length) (ts ++ t ∷ [])
stand_more low r t ts h l f =
    stand_append 0 low (r.start + r.length) ts (t ∷ []) h (omega (arith, l, f.0), omega (arith, f.1))

-- ---- refusals

-- what comes first in some comes first with others behind it
pub first_of_all : (xs ys all : List ShiftError) (e : ShiftError) → all ≡ xs ++ ys → IsFirstRefusal xs e
    → IsFirstRefusal all e
first_of_all xs ys all e same h =
    record { others = h.others ++ ys; first = same ∙ ap (λ (zs : List ShiftError). zs ++ ys) h.first }

-- where the source didn't fail
pub outside_map : {A B : Type 0} (e : ShiftError) → (A → B) → OrShiftFault e A → OrShiftFault e B
outside_map (OffsetTable at) f a = f a
outside_map (BadTree at) f a = f a
outside_map (BadTable at) f a = f a
outside_map (Overflow at) f a = f a
outside_map ReadFault f a = tt
outside_map NoMemory f a = tt

-- ---- the form of a table

-- the number of fields that a box states
pub count_told : (file : List ℕ) (r : RootBox) → 8 ≤ r.length - r.header
    → number_at false file (r.start + r.header + 4) ≡ stated_count (payload_at file r)
count_told file r some =
    ap (λ (xs : List ℕ). from_be_bytes w32 (take 4 xs)) (sym (drop-drop 4 (r.start + r.header) file))
    ∙ ap (from_be_bytes w32)
    (sym (piece_of (r.length - r.header) 4 4 (drop (r.start + r.header) file) (omega (arith, some))))

-- a box has the form of a table, by its length
pub form_by : (file : List ℕ) (r : RootBox) (wide t : Bool) → r.start + r.length ≤ length file → r.header ≤ r.length
    → 8 ≤ r.length - r.header
    → ((r.length - r.header) == (8 + fields_len wide (stated_count (payload_at file r)))) ≡ t
    → is_table wide (payload_at file r) ≡ t
form_by file r wide t inside ordered some e =
    let size : length (payload_at file r) ≡ r.length - r.header = payload_size file r inside ordered in
    ap (λ (n : ℕ). nat_le 8 n && (n == (8 + fields_len wide (stated_count (payload_at file r))))) size
    ∙ ap (λ (b : Bool). b && ((r.length - r.header) == (8 + fields_len wide (stated_count (payload_at file r)))))
    (le-leb 8 (r.length - r.header) some)
    ∙ e

-- ---- rows that are passed

-- the fill goes on behind them
skipped_fill : (before rest : List RootBox) (high low : ℕ) → FillSource high low (before ++ rest)
    → (mid : ℕ) × (low ≤ mid) × FillSource high mid rest
skipped_fill [] rest high low f = (low, omega arith, f)
skipped_fill (r ∷ rs) rest high low f = let more = skipped_fill rs rest high (low + r.length) f.3 in (more.0, omega (arith, more.1), more.2)

-- the rows that are left fill a part
pub skips_fill : (kind : List ℕ) (rows rest : List RootBox) (high low : ℕ) → Skips kind rows rest
    → FillSource high low rows → (mid : ℕ) × (low ≤ mid) × FillSource high mid rest
skips_fill kind rows rest high low s f = skipped_fill s.before rest high low (subst (FillSource high low) s.split f)

-- the rows that are left lie in the source
pub skips_lie : (kind : List ℕ) (rows rest : List RootBox) (len : ℕ) → Skips kind rows rest → LieIn len rows
    → LieIn len rest
skips_lie kind rows rest len s h = let f = skips_fill kind rows rest h.high h.low s h.fill in record { low = f.0; high = h.high; fill = f.2; inside = h.inside }

-- tables that stand apart before the rows do before those that are left
pub skips_apart : (kind : List ℕ) (rows rest : List RootBox) (ts : List ChunkTable) (high low : ℕ)
    → Skips kind rows rest → FillSource high low rows → StandApart 0 low ts
    → (mid : ℕ) × FillSource high mid rest × StandApart 0 mid ts
skips_apart kind rows rest ts high low s f h = let g = skips_fill kind rows rest high low s f in (g.0, g.2, stand_higher 0 low g.0 ts g.1 h)

-- nothing is refused of them
skipped_refusals : (file kind : List ℕ) (kinds : List (List ℕ)) (before rest : List RootBox)
    → AllByRecursion (λ (r : RootBox). bytes_eq r.kind kind ≡ false) before
    → refusals_below file (kind ∷ kinds) (before ++ rest) ≡ refusals_below file (kind ∷ kinds) rest
skipped_refusals file kind kinds [] rest h = refl
skipped_refusals file kind kinds (r ∷ rs) rest h =
    ap
    (λ (t : Bool). cond t (option_map_or (refusals_below file kinds) (inner file r) (BadTree r.start ∷ [])) [] ++ refusals_below file (kind ∷ kinds) (rs ++ rest))
    h.0
    ∙ skipped_refusals file kind kinds rs rest h.1

-- in all of them
pub skips_refusals : (file kind : List ℕ) (kinds all : List (List ℕ)) (rows rest : List RootBox) → all ≡ kind ∷ kinds
    → Skips kind rows rest → refusals_below file all rows ≡ refusals_below file all rest
skips_refusals file kind kinds all rows rest e s =
    ap (λ (ks : List (List ℕ)). refusals_below file ks rows) e ∙ ap (refusals_below file (kind ∷ kinds)) s.split
    ∙ skipped_refusals file kind kinds s.before rest s.others
    ∙ ap (λ (ks : List (List ℕ)). refusals_below file ks rest) (sym e)

-- rows of other types have no tables below them
skipped_tables : (file kind : List ℕ) (kinds : List (List ℕ)) (before rest : List RootBox)
    → AllByRecursion (λ (r : RootBox). bytes_eq r.kind kind ≡ false) before
    → tables_below file (kind ∷ kinds) (before ++ rest) ≡ tables_below file (kind ∷ kinds) rest
skipped_tables file kind kinds [] rest h = refl
skipped_tables file kind kinds (r ∷ rs) rest h =
    ap
    (λ (t : Bool). cond t (option_map_or (tables_below file kinds) (inner file r) []) [] ++ tables_below file (kind ∷ kinds) (rs ++ rest))
    h.0
    ∙ skipped_tables file kind kinds rs rest h.1

-- none of them has
pub skips_tables : (file kind : List ℕ) (kinds all : List (List ℕ)) (rows rest : List RootBox) → all ≡ kind ∷ kinds
    → Skips kind rows rest → tables_below file all rows ≡ tables_below file all rest
skips_tables file kind kinds all rows rest e s =
    ap (λ (ks : List (List ℕ)). tables_below file ks rows) e ∙ ap (tables_below file (kind ∷ kinds)) s.split
    ∙ skipped_tables file kind kinds s.before rest s.others
    ∙ ap (λ (ks : List (List ℕ)). tables_below file ks rest) (sym e)

-- one more row of another type
pub skips_step : (kind : List ℕ) (rows rest : List RootBox) → 0 < length rest → Skips kind rows rest
    → bytes_eq (get_or rest 0 no_row).kind kind ≡ false → Skips kind rows (drop 1 rest)
skips_step kind rows rest some s other =
    let r : RootBox = get_or rest 0 no_row in
    record {
      before = s.before ++ r ∷ [];
      split =
          s.split ∙ ap (λ (xs : List RootBox). s.before ++ xs) (first_of rest no_row some)
          ∙ sym (append_assoc s.before (r ∷ []) (drop 1 rest));
      others = all_more s.before s.others;
    }
  where
    all_more : (xs : List RootBox) → AllByRecursion (λ (r : RootBox). bytes_eq r.kind kind ≡ false) xs
        → AllByRecursion (λ (r : RootBox). bytes_eq r.kind kind ≡ false) (xs ++ get_or rest 0 no_row ∷ [])
    all_more [] h = (other, tt)
    all_more (x ∷ xs) h = (h.0, all_more xs h.1)

-- ---- one row

-- the boxes inside a box are those between its header and its end
pub inner_between : (file : List ℕ) (r : RootBox) → r.start + r.length ≤ length file → r.header ≤ r.length
    → rows_between file (r.start + r.header) (r.start + r.length) ≡ inner file r
inner_between file r inside ordered =
    let n : (r.start + r.length) - (r.start + r.header) ≡ r.length - r.header = omega (arith, ordered) in
    ap (λ k. child_rows k (r.start + r.header) (take k (drop (r.start + r.header) file))) n
    ∙ ap (λ k. child_rows k (r.start + r.header) (payload_at file r)) (sym (payload_size file r inside ordered))

-- the refusals at the first of rows, which is of the type, and at those after
pub refusals_step : (file kind : List ℕ) (kinds all : List (List ℕ)) (rows : List RootBox) → all ≡ kind ∷ kinds
    → 0 < length rows → IsFirstKind kind rows
    → refusals_below file all rows ≡ option_map_or (refusals_below file kinds) (inner file (get_or rows 0 no_row)) (BadTree (get_or rows 0 no_row).start ∷ []) ++ refusals_below file all (drop 1 rows)
refusals_step file kind kinds all [] e some k = absurd (omega (arith, some))
refusals_step file kind kinds all (r ∷ rs) e some k =
    ap (λ (ks : List (List ℕ)). refusals_below file ks (r ∷ rs)) e
    ∙ ap
    (λ (t : Bool). cond t (option_map_or (refusals_below file kinds) (inner file r) (BadTree r.start ∷ [])) [] ++ refusals_below file (kind ∷ kinds) rs)
    k
    ∙ ap
    (λ (ks : List (List ℕ)). option_map_or (refusals_below file kinds) (inner file r) (BadTree r.start ∷ []) ++ refusals_below file ks rs)
    (sym e)

-- the tables below the first of rows, which is of the type, and below those after
pub tables_below_step : (file kind : List ℕ) (kinds all : List (List ℕ)) (rows : List RootBox) → all ≡ kind ∷ kinds
    → 0 < length rows → IsFirstKind kind rows
    → tables_below file all rows ≡ option_map_or (tables_below file kinds) (inner file (get_or rows 0 no_row)) [] ++ tables_below file all (drop 1 rows)
tables_below_step file kind kinds all [] e some k = absurd (omega (arith, some))
tables_below_step file kind kinds all (r ∷ rs) e some k =
    ap (λ (ks : List (List ℕ)). tables_below file ks (r ∷ rs)) e
    ∙ ap
    (λ (t : Bool). cond t (option_map_or (tables_below file kinds) (inner file r) []) [] ++ tables_below file (kind ∷ kinds) rs)
    k
    ∙ ap (λ (ks : List (List ℕ)). option_map_or (tables_below file kinds) (inner file r) [] ++ tables_below file ks rs)
    (sym e)

-- siblings one at a time
pub siblings_step : (file : List ℕ) (rows : List RootBox) → 0 < length rows
    → flat_map (sibling_refusals file) rows ≡ sibling_refusals file (get_or rows 0 no_row) ++ flat_map (sibling_refusals file) (drop 1 rows)
siblings_step file [] some = absurd (omega (arith, some))
siblings_step file (r ∷ rs) some = refl

-- the tables among siblings, one sibling at a time
pub among_step : (file : List ℕ) (rows : List RootBox) → 0 < length rows
    → tables_among file rows ≡ tables_among file (get_or rows 0 no_row ∷ []) ++ tables_among file (drop 1 rows)
among_step file [] some = absurd (omega (arith, some))
among_step file (r ∷ rs) some = go (is_table_kind r.kind)
  where
    go : (t : Bool)
        → map (table_of file) (cond t (r ∷ filter (λ (x : RootBox). is_table_kind x.kind) rs) (filter (λ (x : RootBox). is_table_kind x.kind) rs))
        ≡ map (table_of file) (cond t (r ∷ []) []) ++ tables_among file rs
    go true = refl
    go false = refl

-- ---- a whole box

-- a box that no list fills is refused before those after it
pub tree_refused : (file kind : List ℕ) (kinds all : List (List ℕ)) (rows whole : List RootBox) (e : ShiftError)
    → all ≡ kind ∷ kinds → 0 < length rows → IsFirstKind kind rows
    → refusals_below file all whole ≡ refusals_below file all rows
    → (inner file (get_or rows 0 no_row) ≡ None) × (e ≡ BadTree (get_or rows 0 no_row).start)
    → IsFirstRefusal (refusals_below file all whole) e
tree_refused file kind kinds all rows whole e same some k is h = record {
  others = refusals_below file all (drop 1 rows);
  first =
      is ∙ refusals_step file kind kinds all rows same some k
      ∙ ap
      (λ (m : Option (List RootBox)). option_map_or (refusals_below file kinds) m (BadTree (get_or rows 0 no_row).start ∷ []) ++ refusals_below file all (drop 1 rows))
      h.0
      ∙ ap (λ (x : ShiftError). x ∷ refusals_below file all (drop 1 rows)) (sym h.1);
}

-- what is refused inside a box is refused before what comes after it
pub inner_refused : (file kind : List ℕ) (kinds all : List (List ℕ)) (rows whole list : List RootBox) (e : ShiftError)
    → all ≡ kind ∷ kinds → 0 < length rows → IsFirstKind kind rows
    → refusals_below file all whole ≡ refusals_below file all rows → inner file (get_or rows 0 no_row) ≡ Some list
    → IsFirstRefusal (refusals_below file kinds list) e → IsFirstRefusal (refusals_below file all whole) e
inner_refused file kind kinds all rows whole list e same some k is l h =
    first_of_all (refusals_below file kinds list) (refusals_below file all (drop 1 rows))
    (refusals_below file all whole) e
    (is ∙ refusals_step file kind kinds all rows same some k
    ∙ ap (λ (m : Option (List RootBox)). option_map_or (refusals_below file kinds) m (BadTree (get_or rows 0 no_row).start ∷ []) ++ refusals_below file all (drop 1 rows)) l) h

-- past a box of which nothing inside is refused
pub refusals_past : (file kind : List ℕ) (kinds all : List (List ℕ)) (rows list : List RootBox) → all ≡ kind ∷ kinds
    → 0 < length rows → IsFirstKind kind rows
    → inner file (get_or rows 0 no_row) ≡ Some list → refusals_below file kinds list ≡ []
    → refusals_below file all rows ≡ refusals_below file all (drop 1 rows)
refusals_past file kind kinds all rows list same some k l none =
    refusals_step file kind kinds all rows same some k
    ∙ ap
    (λ (m : Option (List RootBox)). option_map_or (refusals_below file kinds) m (BadTree (get_or rows 0 no_row).start ∷ []) ++ refusals_below file all (drop 1 rows))
    l
    ∙ ap (λ (xs : List ShiftError). xs ++ refusals_below file all (drop 1 rows)) none

-- past a box the tables inside it are added
pub tables_past : (file kind : List ℕ) (kinds all : List (List ℕ)) (rows list : List RootBox) (ts us : List ChunkTable)
    → all ≡ kind ∷ kinds → 0 < length rows → IsFirstKind kind rows
    → inner file (get_or rows 0 no_row) ≡ Some list → us ≡ ts ++ tables_below file kinds list
    → us ++ tables_below file all (drop 1 rows) ≡ ts ++ tables_below file all rows
tables_past file kind kinds all rows list ts us same some k l is =
    ap (λ (xs : List ChunkTable). xs ++ tables_below file all (drop 1 rows)) is
    ∙ append_assoc ts (tables_below file kinds list) (tables_below file all (drop 1 rows))
    ∙ ap (λ (xs : List ChunkTable). ts ++ xs)
    (sym (tables_below_step file kind kinds all rows same some k
    ∙ ap (λ (m : Option (List RootBox)). option_map_or (tables_below file kinds) m [] ++ tables_below file all (drop 1 rows)) l))

-- ---- root boxes

-- what holds holds where the source didn't fail
pub outside_of : {A : Type 0} (e : ShiftError) → A → OrShiftFault e A
outside_of (OffsetTable at) a = a
outside_of (BadTree at) a = a
outside_of (BadTable at) a = a
outside_of (Overflow at) a = a
outside_of ReadFault a = tt
outside_of NoMemory a = tt

-- the last of rows that fill a part ends it
fill_last : (size low len : ℕ) (r : RootBox) (rs : List RootBox) → FillSource size low (r ∷ rs)
    → AllByRecursion (IsBoxWithin len) (r ∷ rs) → size ≤ len
fill_last size low len r [] f h = omega (arith, f.0, f.3, h.0)
fill_last size low len r (s ∷ rs) f h = fill_last size (low + r.length) len s rs f.3 h.1

-- rows that fill a part and end in a source lie in it
pub lie_of : (size low len : ℕ) (rows : List RootBox) → FillSource size low rows → All (IsBoxWithin len) rows
    → LieIn len rows
lie_of size low len [] f h = record { low = 0; high = 0; fill = refl; inside = omega arith }
lie_of size low len (r ∷ rs) f h =
    record
    { low = low; high = size; fill = f; inside = fill_last size low len r rs f (recursion_from_All (IsBoxWithin len) (r ∷ rs) h) }

-- no tables stand apart
pub stand_none : (high : ℕ) → StandApart 0 high []
stand_none high = omega arith

-- ---- places of refusals

-- each row that lies in a source begins in it
pub lie_starts : (len high low : ℕ) (rows : List RootBox) → FillSource high low rows → high ≤ len
    → AllByRecursion (λ (r : RootBox). r.start < len) rows
lie_starts len high low [] f inside = tt
lie_starts len high low (r ∷ rs) f inside =
    (omega (arith, f.0, f.1, f.2, fill_end high (low + r.length) rs f.3, inside), lie_starts len high (low + r.length) rs f.3 inside)

-- the first root box that is refused begins in the source
pub root_cause : (len n : ℕ) (rows : List RootBox) (e : ShiftError)
    → AllByRecursion (λ (r : RootBox). r.start < len) rows → IsFirstRefusal (root_refusals rows) e
    → IsTablesCause len n n e
root_cause len n [] e h first = absurd (let bad = first.first in cc (bad))
root_cause len n (r ∷ rs) e h first = go (is_other_table r.kind) (λ (k : IsFirstRefusal (root_refusals rs) e). root_cause len n rs e h.1 k) first
  where
    go : (t : Bool) → (IsFirstRefusal (root_refusals rs) e → IsTablesCause len n n e)
        → IsFirstRefusal (cond t (OffsetTable r.start ∷ []) [] ++ root_refusals rs) e → IsTablesCause len n n e
    go true more k =
        subst (IsTablesCause len n n) (let q : OffsetTable r.start ≡ e = (let w = k.first in cc (w)) in q) (h.0, refl)
    go false more k = more k
