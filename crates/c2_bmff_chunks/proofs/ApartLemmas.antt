-- Rows that follow one another, and the tables below them, which stand apart.
use Rattle.std.proofs.Common.{◌≡◌, ℕ, ◌+◌, ◌-◌, ◌^◌, ◌<◌, ◌≤◌, Bool, true, false, cond, ◌==◌, List, [], ◌∷◌, ◌++◌, length, drop, map, Option, Some, None, refl, sym, ap, ◌∙◌, subst, arith, length-append}
use Rattle.std.specs.Prelude.{codes, filter, nat_le}
use Rattle.std.specs.List.{flat_map, AllByRecursion}
use Rattle.std.specs.Option.{option_map_or}
use Rattle.std.specs.Str.{bytes_eq}
use Rattle.std.proofs.lemmas.Bool.{and_parts}
use borrow.Author.Tests.{eqb-true}
use Rattle.c2_spec.specs.Bmff.Boxes.{Box, HasRoots, IsBox, box_bytes, box_len, boxes_len, header_len}
use Rattle.c2_spec.specs.Bmff.Paths.{placed_from}
use Rattle.c2_spec.proofs.BmffSizes.{bytes_size}
use Rattle.c2_bmff_rows.specs.Children.{child_rows}
use Rattle.c2_bmff_rows.specs.Rows.{payload_at, row_of, rows_of}
use Rattle.c2_bmff_rows.specs.declared.row.RootBox.{RootBox}
use Rattle.c2_lemmas.proofs.Bytes.{AreBytes, bytes-drop, bytes-take}
use Rattle.c2_bmff_rows.proofs.StandLemmas.{Fills, form_boxes, payload_size, rows_told, told_filled}
use Rattle.c2_bmff_chunks.specs.Refusals.{refusals_below, sibling_refusals}
use Rattle.c2_bmff_chunks.specs.Tables.{StandApart, fields_len, inner, is_table, is_table_kind, stated_count, table_len, table_of, tables_among, tables_below, wide_kind}
use Rattle.c2_bmff_chunks.specs.declared.table.ChunkTable.{ChunkTable}
use Rattle.c2_bmff_chunks.specs.declared.table.ShiftError.{ShiftError}
use Rattle.c2_bmff_chunks.specs.declared.table.ShiftError.TheVariants.{OffsetTable, BadTree, BadTable}
use Rattle.c2_bmff_rows.proofs.StandLemmas.{sized_boxes}

-- ---- rows

-- Rows of boxes one after the other, from a place on and up to another; each has its header in it.
abbrev pub RowsApart : ℕ → ℕ → List RootBox → Type 0
RowsApart low high [] = low ≤ high
RowsApart low high (r ∷ rs) = (low ≤ r.start) × (r.header ≤ r.length) × RowsApart (r.start + r.length) high rs

-- a box has its header
header_in : (b : Box) → header_len b.form ≤ box_len b
header_in b = omega arith

-- boxes one after the other
pub boxes_apart : (at : ℕ) (boxes : List Box) → AllByRecursion IsBox boxes
    → RowsApart at (at + boxes_len boxes) (map row_of (placed_from at boxes))
boxes_apart at [] h = omega arith
boxes_apart at (b ∷ bs) h =
    let more : boxes_len (b ∷ bs) ≡ box_len b + boxes_len bs =
    length-append (box_bytes b) (flat_map box_bytes bs) ∙ ap (λ n. n + boxes_len bs) (bytes_size b h.0) in
    let e : at + box_len b + boxes_len bs ≡ at + boxes_len (b ∷ bs) = omega (arith, more) in
    (omega arith, header_in b, subst (λ n. RowsApart (at + box_len b) n (map row_of (placed_from (at + box_len b) bs))) e (boxes_apart (at + box_len b) bs h.1))

-- the boxes inside another follow one another in it
pub inner_apart : (file : List ℕ) (r : RootBox) (rows : List RootBox) → AreBytes file → length file < 2 ^ 62
    → r.start + r.length ≤ length file → r.header ≤ r.length
    → inner file r ≡ Some rows → RowsApart (r.start + r.header) (r.start + r.length) rows
inner_apart file r rows bytes fits inside ordered e =
    let part : List ℕ = payload_at file r in
    let at : ℕ = r.start + r.header in
    let size : length part ≡ r.length - r.header = payload_size file r inside ordered in
    let are : AreBytes part = bytes-take (r.length - r.header) (drop at file) (bytes-drop at file bytes) in
    let small : length part < 2 ^ 64 = omega (arith, size, inside, fits) in
    let f : Fills part = told_filled (length part) at part rows are small e in
    let told : child_rows (length part) at part ≡ Some (map row_of (placed_from at f.boxes)) =
    rows_told f.boxes (length part) at part f.sized are small f.bytes (omega arith) in
    let same : map row_of (placed_from at f.boxes) ≡ rows = let s = sym told ∙ e in cc (s) in
    let end : at + boxes_len f.boxes ≡ r.start + r.length = omega (arith, ap length f.bytes, size, ordered) in
    subst (RowsApart at (r.start + r.length)) same
    (subst (λ n. RowsApart at n (map row_of (placed_from at f.boxes))) end (boxes_apart at f.boxes (sized_boxes f.boxes f.sized)))

-- the root boxes of a file follow one another in it
pub roots_apart : (file : List ℕ) (roots : List Box) → HasRoots file roots → RowsApart 0 (length file) (rows_of roots)
roots_apart file roots h =
    let e : 0 + boxes_len roots ≡ length file = omega (arith, ap length h.bytes) in
    subst (λ n. RowsApart 0 n (rows_of roots)) e (boxes_apart 0 roots (form_boxes roots h.forms))

-- ---- tables

-- the bounds of tables that stand apart go up
pub stand_ordered : (low high : ℕ) (ts : List ChunkTable) → StandApart low high ts → low ≤ high
stand_ordered low high [] h = h
stand_ordered low high (t ∷ ts) h = omega (arith, h.0, stand_ordered (t.first + table_len t) high ts h.1)

-- the lower bound of tables that stand apart may be lower
pub stand_lower : (low low' high : ℕ) (ts : List ChunkTable) → low' ≤ low → StandApart low high ts
    → StandApart low' high ts
stand_lower low low' high [] l h = omega (arith, l, h)
stand_lower low low' high (t ∷ ts) l h = (omega (arith, l, h.0), h.1)

-- tables behind others
pub stand_append : (low mid high : ℕ) (ts us : List ChunkTable) → StandApart low mid ts → StandApart mid high us
    → StandApart low high (ts ++ us)
stand_append low mid high [] us h k = stand_lower mid low high us h k
stand_append low mid high (t ∷ ts) us h k = (h.0, stand_append (t.first + table_len t) mid high ts us h.1 k)

-- two lists that are none together
pub none_both : {A : Type 0} (xs ys : List A) → xs ++ ys ≡ [] → (xs ≡ []) × (ys ≡ [])
none_both [] ys e = (refl, e)
none_both (x ∷ xs) ys e = absurd (cc (e))

-- a table in its box
pub table_inside : (file : List ℕ) (r : RootBox) → r.start + r.length ≤ length file → r.header ≤ r.length
    → is_table (bytes_eq r.kind wide_kind) (payload_at file r) ≡ true
    → StandApart (r.start + r.header) (r.start + r.length) (table_of file r ∷ [])
table_inside file r inside ordered e =
    let part : List ℕ = payload_at file r in
    let wide : Bool = bytes_eq r.kind wide_kind in
    let both = and_parts (nat_le 8 (length part)) (length part == 8 + fields_len wide (stated_count part)) e in
    let size : length part ≡ r.length - r.header = payload_size file r inside ordered in
    let is : length part ≡ 8 + fields_len wide (stated_count part) =
    eqb-true (length part) (8 + fields_len wide (stated_count part)) both.1 in
    (omega arith, omega (arith, size, is, ordered))

-- the tables among rows of which nothing is refused
among_apart : (file : List ℕ) (low high : ℕ) (rows : List RootBox) → RowsApart low high rows → high ≤ length file
    → flat_map (sibling_refusals file) rows ≡ [] → StandApart low high (tables_among file rows)
among_apart file low high [] h inside e = h
among_apart file low high (r ∷ rs) h inside e =
    let up : r.start + r.length ≤ high = rows_ordered (r.start + r.length) high rs h.2 in
    let both = none_both (sibling_refusals file r) (flat_map (sibling_refusals file) rs) e in
    go (is_table_kind r.kind) refl up both.0 (among_apart file (r.start + r.length) high rs h.2 inside both.1)
  where
    rows_ordered : (low high : ℕ) (rows : List RootBox) → RowsApart low high rows → low ≤ high
    rows_ordered low high [] h = h
    rows_ordered low high (r ∷ rs) h = omega (arith, h.0, rows_ordered (r.start + r.length) high rs h.2)

    good : (s t : Bool) → cond s (OffsetTable r.start ∷ []) (cond true (cond t [] (BadTable r.start ∷ [])) []) ≡ []
        → t ≡ true
    good true t k = absurd (cc (k))
    good false true k = refl
    good false false k = absurd (cc (k))

    go : (t : Bool) → is_table_kind r.kind ≡ t → r.start + r.length ≤ high → sibling_refusals file r ≡ []
        → StandApart (r.start + r.length) high (tables_among file rs)
        → StandApart low high (map (table_of file) (cond t (r ∷ filter (λ (x : RootBox). is_table_kind x.kind) rs) (filter (λ (x : RootBox). is_table_kind x.kind) rs)))
    go true k up none more =
        let saio : Bool = bytes_eq r.kind (codes "saio") in
        let table : Bool = is_table (bytes_eq r.kind wide_kind) (payload_at file r) in
        let refused =
        λ (t : Bool). cond saio (OffsetTable r.start ∷ []) (cond t (cond table [] (BadTable r.start ∷ [])) []) in
        let is : table ≡ true = good saio table (sym (ap refused k) ∙ none) in
        stand_append low (r.start + r.length) high (table_of file r ∷ []) (tables_among file rs)
        (stand_lower (r.start + r.header) low (r.start + r.length) (table_of file r ∷ []) (omega (arith, h.0)) (table_inside file r (omega (arith, up, inside)) h.1 is))
        more
    go false k up none more = stand_lower (r.start + r.length) low high (tables_among file rs) (omega (arith, h.0)) more

-- rows go up
pub rows_up : (low high : ℕ) (rows : List RootBox) → RowsApart low high rows → low ≤ high
rows_up low high [] h = h
rows_up low high (r ∷ rs) h = omega (arith, h.0, rows_up (r.start + r.length) high rs h.2)

-- the tables below rows of which nothing is refused
pub below_apart : (file : List ℕ) → AreBytes file → length file < 2 ^ 62
    → (kinds : List (List ℕ)) (low high : ℕ) (rows : List RootBox) → RowsApart low high rows → high ≤ length file
    → refusals_below file kinds rows ≡ [] → StandApart low high (tables_below file kinds rows)
below_apart file bytes fits [] low high rows h inside e = among_apart file low high rows h inside e
below_apart file bytes fits (kind ∷ kinds) low high [] h inside e = h
below_apart file bytes fits (kind ∷ kinds) low high (r ∷ rs) h inside e =
    go (bytes_eq r.kind kind) (inner file r) refl
    (none_both (here (bytes_eq r.kind kind) (inner file r)) (refusals_below file (kind ∷ kinds) rs) e).0
    (λ rows' k none. below_apart file bytes fits kinds (r.start + r.header) (r.start + r.length) rows' k up none)
    (below_apart file bytes fits (kind ∷ kinds) (r.start + r.length) high rs h.2 inside (none_both (here (bytes_eq r.kind kind) (inner file r)) (refusals_below file (kind ∷ kinds) rs) e).1)
  where
    here : Bool → Option (List RootBox) → List ShiftError
    here t m = cond t (option_map_or (refusals_below file kinds) m (BadTree r.start ∷ [])) []

    up : r.start + r.length ≤ length file
    up = omega (arith, rows_up (r.start + r.length) high rs h.2, inside)

    go : (t : Bool) (m : Option (List RootBox)) → inner file r ≡ m → here t m ≡ []
        → ((rows' : List RootBox) → RowsApart (r.start + r.header) (r.start + r.length) rows' → refusals_below file kinds rows' ≡ [] → StandApart (r.start + r.header) (r.start + r.length) (tables_below file kinds rows'))
        → StandApart (r.start + r.length) high (tables_below file (kind ∷ kinds) rs)
        → StandApart low high (cond t (option_map_or (tables_below file kinds) m []) [] ++ tables_below file (kind ∷ kinds) rs)
    go true None k none each more = absurd (cc (none))
    go true (Some rows') k none each more =
        stand_append low (r.start + r.length) high (tables_below file kinds rows') (tables_below file (kind ∷ kinds) rs)
        (stand_lower (r.start + r.header) low (r.start + r.length) (tables_below file kinds rows') (omega (arith, h.0)) (each rows' (inner_apart file r rows' bytes fits up h.1 k) none))
        more
    go false m k none each more =
        stand_lower (r.start + r.length) low high (tables_below file (kind ∷ kinds) rs) (omega (arith, h.0)) more
