-- The root boxes of a file with moved places.
use Rattle.std.proofs.Common.{◌≡◌, ◌⊎◌, inl, inr, ⊎_elim, ℕ, suc, ◌+◌, ◌-◌, ◌^◌, ◌<◌, ◌≤◌, Bool, true, false, cond, not, ◌&&◌, ◌||◌, List, [], ◌∷◌, ◌++◌, length, get_or, take, drop, map, Option, Some, None, refl, sym, ap, ap₂, ◌∙◌, subst, arith, append_assoc, append-nil, length-append}
use Rattle.std.specs.Prelude.{codes}
use Rattle.std.specs.List.{flat_map, AllByRecursion}
use Rattle.std.specs.Option.{option_map_or}
use Rattle.std.specs.Str.{bytes_eq}
use Rattle.std.proofs.lemmas.Grind.{flat_map-append, same_number_lists}
use Rattle.std.proofs.lemmas.List.{drop-drop, drop-take, drop_all, get_or-drop, get_or-take, length-drop, length-take, take-append-drop, take-take, take_at, drop_at}
use Rattle.std.proofs.lemmas.Slice.Eq.{bytes_eq-Decides}
use Rattle.c2_spec.specs.Bmff.Boxes.{AreBoxForms, Box, HasRoots, IsBox, SizeForm, short, long, to_end, begins_bmff, box_bytes, box_len, boxes_len, header_bytes, header_len, size_fits, uuid_kind}
use Rattle.c2_spec.specs.Bmff.Paths.{PlacedBox, placed_from}
use Rattle.c2_spec.specs.Bmff.Store.{c2pa_user_type, content_of, is_c2pa_box, is_for_manifest, is_other_box, is_version_zero}
use Rattle.c2_spec.proofs.BmffOneList.{first_box, tells}
use Rattle.c2_spec.proofs.BmffSizes.{bytes_size, header_size}
use Rattle.c2_bmff_rows.specs.Rows.{row_of, rows_of}
use Rattle.c2_bmff_rows.specs.declared.row.RootBox.{RootBox}
use Rattle.c2_lemmas.proofs.Bytes.{AreBytes, are_bytes}
use Rattle.c2_bmff_rows.proofs.HeldLemmas.{begins_from, held_once}
use Rattle.c2_bmff_rows.proofs.PathRows.{Member, to_member}
use Rattle.c2_bmff_rows.proofs.StandLemmas.{form_boxes}
use Rattle.c2_bmff_chunks.specs.Fields.{all_fields}
use Rattle.c2_bmff_chunks.specs.Laws.{FieldsLieBehind, RootsAreShifted, TablesStandApart, box_in}
use Rattle.c2_bmff_chunks.specs.Refusals.{refusals_below, root_refusals, shift_refusals}
use Rattle.c2_bmff_chunks.specs.Shifted.{IsShifted}
use Rattle.c2_bmff_chunks.specs.Tables.{StandApart, chunk_tables, field_len, inner, table_path, tables_below}
use Rattle.c2_bmff_chunks.specs.declared.table.ChunkTable.{ChunkTable}
use Rattle.c2_bmff_chunks.specs.declared.table.Field.{Field}
use Rattle.c2_bmff_chunks.specs.declared.table.ShiftError.{ShiftError}
use Rattle.c2_bmff_chunks.specs.declared.table.ShiftError.TheVariants.{BadTree}
use Rattle.c2_bmff_chunks.proofs.ApartLemmas.{RowsApart, below_apart, inner_apart, none_both, roots_apart, rows_up}
use Rattle.c2_bmff_chunks.proofs.FieldLemmas.{member_within, tables_apart}

-- the tables of a file of which nothing is refused stand apart
pub stand_apart : TablesStandApart
unfolding chunk_tables shift_refusals
stand_apart file roots bytes h e =
    below_apart file (are_bytes file bytes) h.fits table_path 0 (length file) (rows_of roots) (roots_apart file roots h)
    (omega arith)
    (none_both (root_refusals (rows_of roots)) (refusals_below file table_path (rows_of roots)) e).1

-- ---- where fields lie

-- a member of two lists together is one of either
either : {A : Type 0} (xs ys : List A) (x : A) → Member x (xs ++ ys) → Member x xs ⊎ Member x ys
either [] ys x m = inr m
either (y ∷ xs) ys x (inl e) = inl (inl e)
either (y ∷ xs) ys x (inr m) = ⊎_elim (λ l. inl (inr l)) (λ r. inr r) (either xs ys x m)

-- a row of one of these boxes
row_member : (ps : List PlacedBox) (r : RootBox) → Member r (map row_of ps)
    → (p : PlacedBox) × Member p ps × (r ≡ row_of p)
row_member [] r m = absurd m
row_member (p ∷ ps) r (inl e) = (p, inl refl, e)
row_member (p ∷ ps) r (inr m) = let more = row_member ps r m in (more.0, inr more.1, more.2)

-- A field lies behind the header of one of these rows, which is of this type.
abbrev LiesIn : List ℕ → List RootBox → Field → Type 0
LiesIn kind rows f =
    (r : RootBox) × Member r rows × (bytes_eq r.kind kind ≡ true) × (r.start + r.header ≤ f.at)
    × (f.at + field_len f.wide ≤ r.start + r.length)

-- each field of the tables below rows of which nothing is refused does
below_lies : (file : List ℕ) → AreBytes file → length file < 2 ^ 62
    → (kind : List ℕ) (kinds : List (List ℕ)) (low high : ℕ) (rows : List RootBox) (f : Field) → RowsApart low high rows
    → high ≤ length file
    → refusals_below file (kind ∷ kinds) rows ≡ [] → Member f (all_fields (tables_below file (kind ∷ kinds) rows))
    → LiesIn kind rows f
below_lies file bytes fits kind kinds low high [] f h inside e m = absurd m
below_lies file bytes fits kind kinds low high (r ∷ rs) f h inside e m =
    go (bytes_eq r.kind kind) (inner file r) refl refl
    (none_both (here (bytes_eq r.kind kind) (inner file r)) (refusals_below file (kind ∷ kinds) rs) e).0
    (either (all_fields (found (bytes_eq r.kind kind) (inner file r))) (all_fields (tables_below file (kind ∷ kinds) rs)) f
    (subst (λ (xs : List Field). Member f xs) (flat_map-append _ (found (bytes_eq r.kind kind) (inner file r)) (tables_below file (kind ∷ kinds) rs)) m))
    (λ n. below_lies file bytes fits kind kinds (r.start + r.length) high rs f h.2 inside (none_both (here (bytes_eq r.kind kind) (inner file r)) (refusals_below file (kind ∷ kinds) rs) e).1 n)
  where
    here : Bool → Option (List RootBox) → List ShiftError
    here t m = cond t (option_map_or (refusals_below file kinds) m (BadTree r.start ∷ [])) []

    found : Bool → Option (List RootBox) → List ChunkTable
    found t m = cond t (option_map_or (tables_below file kinds) m []) []

    up : r.start + r.length ≤ length file
    up = omega (arith, rows_up (r.start + r.length) high rs h.2, inside)

    go : (t : Bool) (m : Option (List RootBox)) → bytes_eq r.kind kind ≡ t → inner file r ≡ m → here t m ≡ []
        → Member f (all_fields (found t m)) ⊎ Member f (all_fields (tables_below file (kind ∷ kinds) rs))
        → (Member f (all_fields (tables_below file (kind ∷ kinds) rs)) → LiesIn kind rs f) → LiesIn kind (r ∷ rs) f
    go t m k i none (inr n) more = let l = more n in (l.0, inr l.1, l.2, l.3, l.4)
    go true None k i none (inl n) more = absurd n
    go false m k i none (inl n) more = absurd n
    go true (Some rows') k i none (inl n) more =
        let apart : StandApart (r.start + r.header) (r.start + r.length) (tables_below file kinds rows') =
        below_apart file bytes fits kinds (r.start + r.header) (r.start + r.length) rows' (inner_apart file r rows' bytes fits up h.1 i) up none in
        let within =
        member_within (r.start + r.header) (r.start + r.length) (all_fields (tables_below file kinds rows')) f
        (tables_apart (r.start + r.header) (r.start + r.length) (tables_below file kinds rows') apart) n in
        (r, inl refl, k, within.0, within.1)

-- ---- what stays

-- the type of the boxes with tables in them
abbrev moov_kind : List ℕ
moov_kind = codes "moov"

-- a position of a file stays, unless it lies behind the header of a `moov`
abbrev StaysOutside : List ℕ → List ℕ → List Box → Type 0
StaysOutside file new roots = (i : ℕ) → ((b : PlacedBox) → Member b (placed_from 0 roots) → bytes_eq b.box.kind moov_kind ≡ true → b.at + header_len b.box.form ≤ i → i < b.at + box_len b.box → ⊥)
    → get_or new i 0 ≡ get_or file i 0

-- where a file is shifted, a position stays, unless it lies behind the header of a `moov`
outside : (from by : ℕ) (file new : List ℕ) (roots : List Box) → AreBytes file → HasRoots file roots
    → shift_refusals file (rows_of roots) ≡ []
    → IsShifted from by (chunk_tables file (rows_of roots)) file new → StaysOutside file new roots
unfolding chunk_tables shift_refusals
outside from by file new roots bytes h e s i free =
    s.others i (λ f c k.
    let l : LiesIn moov_kind (rows_of roots) f =
    below_lies file bytes h.fits moov_kind (codes "trak" ∷ codes "mdia" ∷ codes "minf" ∷ codes "stbl" ∷ []) 0
    (length file) (rows_of roots) f (roots_apart file roots h) (omega arith)
    (none_both (root_refusals (rows_of roots)) (refusals_below file table_path (rows_of roots)) e).1 (to_member _ f c) in
    let b = row_member (placed_from 0 roots) l.0 l.1 in
    let kind : bytes_eq b.0.box.kind moov_kind ≡ true =
    sym (ap (λ (r : RootBox). bytes_eq r.kind moov_kind) b.2) ∙ l.2 in
    let at : l.0.start ≡ b.0.at = ap (λ (r : RootBox). r.start) b.2 in
    let header : l.0.header ≡ header_len b.0.box.form = ap (λ (r : RootBox). r.header) b.2 in
    let len : l.0.length ≡ box_len b.0.box = ap (λ (r : RootBox). r.length) b.2 in
    free b.0 b.1 kind (omega (arith, at, header, l.3, k.0)) (omega (arith, at, len, l.4, k.1)))

-- a part of which each position stays
window : (xs ys : List ℕ) (at n : ℕ) → length xs ≡ length ys
    → ((i : ℕ) → at ≤ i → i < at + n → get_or xs i 0 ≡ get_or ys i 0) → take n (drop at xs) ≡ take n (drop at ys)
window xs ys at n e h =
    same_number_lists (take n (drop at xs)) (take n (drop at ys))
    (omega (arith, length-take n (drop at xs), length-drop at xs, length-take n (drop at ys), length-drop at ys, e))
    (λ i k. let small : i < n = omega (arith, k, length-take n (drop at xs)) in
    get_or-take n (drop at xs) i 0 small ∙ get_or-drop at xs i 0 ∙ h (at + i) (omega arith) (omega (arith, small)) ∙ sym (get_or-drop at ys i 0) ∙ sym (get_or-take n (drop at ys) i 0 small))

-- a header stays
header_stays : (file new : List ℕ) (roots : List Box) (b : PlacedBox) → length new ≡ length file
    → StaysOutside file new roots → Member b (placed_from 0 roots)
    → take (header_len b.box.form) (drop b.at new) ≡ take (header_len b.box.form) (drop b.at file)
header_stays file new roots b size s m =
    window new file b.at (header_len b.box.form) size (λ i l k. s i (λ c n kind from to.
    let same : c ≡ b = held_once 0 roots c b i n m (omega (arith, from), to) (l, omega (arith, k)) in
    let at : c.at ≡ b.at = ap (λ (x : PlacedBox). x.at) same in
    let header : header_len c.box.form ≡ header_len b.box.form = ap (λ (x : PlacedBox). header_len x.box.form) same in
    omega (arith, from, k, at, header)))

-- what is inside a box of another type than `moov` stays
payload_stays : (file new : List ℕ) (roots : List Box) (b : PlacedBox) → length new ≡ length file
    → StaysOutside file new roots → Member b (placed_from 0 roots) → bytes_eq b.box.kind moov_kind ≡ false
    → take (length b.box.payload) (drop (b.at + header_len b.box.form) new) ≡ take (length b.box.payload) (drop (b.at + header_len b.box.form) file)
payload_stays file new roots b size s m other =
    window new file (b.at + header_len b.box.form) (length b.box.payload) size (λ i l k. s i (λ c n kind from to.
    let same : c ≡ b = held_once 0 roots c b i n m (omega (arith, from), to) (omega (arith, l), omega (arith, k)) in
    let bad : true ≡ false = sym kind ∙ ap (λ (x : PlacedBox). bytes_eq x.box.kind moov_kind) same ∙ other in
    cc (bad)))

-- ---- the boxes

-- two parts one after the other
take-split : (m n : ℕ) (xs : List ℕ) → take (m + n) xs ≡ take m xs ++ take n (drop m xs)
take-split m n xs =
    sym (take-append-drop m (take (m + n) xs))
    ∙ ap (λ (ys : List ℕ). ys ++ drop m (take (m + n) xs)) (take-take m (m + n) xs (omega arith))
    ∙ ap (λ (ys : List ℕ). take m xs ++ ys) (drop-take m n xs)

-- a box as the new file has it is as long
in_len : (new : List ℕ) (b : PlacedBox) → b.at + box_len b.box ≤ length new → box_len (box_in new b) ≡ box_len b.box
in_len new b inside =
    omega
    (arith, length-take (length b.box.payload) (drop (b.at + header_len b.box.form) new), length-drop (b.at + header_len b.box.form) new, inside)

-- the bytes of a box as the new file has it stand there
in_bytes : (file new tail : List ℕ) (b : PlacedBox) → IsBox b.box → b.at + box_len b.box ≤ length new
    → drop b.at file ≡ box_bytes b.box ++ tail
    → take (header_len b.box.form) (drop b.at new) ≡ take (header_len b.box.form) (drop b.at file)
    → take (box_len b.box) (drop b.at new) ≡ box_bytes (box_in new b)
in_bytes file new tail b is inside here same =
    let hl : ℕ = header_len b.box.form in
    let pl : ℕ = length b.box.payload in
    let head : List ℕ = header_bytes b.box.form (box_len b.box) b.box.kind in
    let was : take hl (drop b.at file) ≡ head =
    ap (take hl) (here ∙ append_assoc head b.box.payload tail)
    ∙ take_at head (b.box.payload ++ tail) hl (header_size b.box.form (box_len b.box) b.box.kind is.kind) in
    take-split hl pl (drop b.at new)
    ∙ ap₂ (λ (xs ys : List ℕ). xs ++ ys)
    (same ∙ was ∙ ap (λ n. header_bytes b.box.form n b.box.kind) (sym (in_len new b inside)))
    (ap (take pl) (drop-drop hl b.at new))

-- a box as the new file has it is a box
in_is : (new : List ℕ) (b : PlacedBox) → IsBox b.box → b.at + box_len b.box ≤ length new → IsBox (box_in new b)
in_is new b is inside =
    let len : box_len (box_in new b) ≡ box_len b.box = in_len new b inside in
    record {
      kind = is.kind;
      fits = ap (size_fits b.box.form) len ∙ is.fits;
      user_type = λ u. omega (arith, is.user_type u, len);
    }

-- the boxes of the new file from a place on
boxes_in : (file new : List ℕ) (roots : List Box) → length new ≡ length file → StaysOutside file new roots
    → (p : ℕ) (bs : List Box) → AllByRecursion IsBox bs → p ≤ length file → drop p file ≡ flat_map box_bytes bs
    → ((b : PlacedBox) → Member b (placed_from p bs) → Member b (placed_from 0 roots))
    → drop p new ≡ flat_map box_bytes (map (box_in new) (placed_from p bs))
boxes_in file new roots size s p [] is inside e m =
    drop_all p new (omega (arith, length-drop p file, ap length e, size, inside))
boxes_in file new roots size s p (b ∷ bs) is inside e m =
    let c : PlacedBox = record { at = p; box = b } in
    let len : length (box_bytes b) ≡ box_len b = bytes_size b is.0 in
    let total : length file - p ≡ box_len b + length (flat_map box_bytes bs) =
    sym (length-drop p file) ∙ ap length e ∙ length-append (box_bytes b) (flat_map box_bytes bs)
    ∙ ap (λ n. n + length (flat_map box_bytes bs)) len in
    let up : p + box_len b ≤ length file = omega (arith, total, inside) in
    let next : drop (p + box_len b) file ≡ flat_map box_bytes bs =
    sym (drop-drop (box_len b) p file) ∙ ap (drop (box_len b)) e
    ∙ drop_at (box_bytes b) (flat_map box_bytes bs) (box_len b) len in
    sym (take-append-drop (box_len b) (drop p new))
    ∙ ap₂ (λ (xs ys : List ℕ). xs ++ ys)
    (in_bytes file new (flat_map box_bytes bs) c is.0 (omega (arith, up, size)) e (header_stays file new roots c size s (m c (inl refl))))
    (drop-drop (box_len b) p new ∙ boxes_in file new roots size s (p + box_len b) bs is.1 up next (λ x n. m x (inr n)))

-- the boxes of the new file are in their forms
forms_in : (new : List ℕ) (p : ℕ) (bs : List Box) → AreBoxForms bs → p + boxes_len bs ≤ length new
    → AreBoxForms (map (box_in new) (placed_from p bs))
forms_in new p [] f inside = tt
forms_in new p (b ∷ []) f inside = let len : boxes_len (b ∷ []) ≡ box_len b = length-append (box_bytes b) [] ∙ ap (λ n. n + 0) (bytes_size b f) ∙ (let z : box_len b + 0 ≡ box_len b = omega arith in z) in in_is new (record { at = p; box = b }) f (omega (arith, inside, len))
forms_in new p (b ∷ c ∷ cs) f inside =
    let len : boxes_len (b ∷ c ∷ cs) ≡ box_len b + boxes_len (c ∷ cs) =
    length-append (box_bytes b) (flat_map box_bytes (c ∷ cs))
    ∙ ap (λ n. n + boxes_len (c ∷ cs)) (bytes_size b f.0.is_box) in
    (record { is_box = in_is new (record { at = p; box = b }) f.0.is_box (omega (arith, inside, len)); sized = f.0.sized }, forms_in new (p + box_len b) (c ∷ cs) f.1 (omega (arith, inside, len)))

-- as many as before
count_in : (new : List ℕ) (p : ℕ) (bs : List Box) → length (map (box_in new) (placed_from p bs)) ≡ length bs
count_in new p [] = refl
count_in new p (b ∷ bs) = ap suc (count_in new (p + box_len b) bs)

-- the new file begins as the file does
begins_in : (file new : List ℕ) (roots : List Box) → length new ≡ length file → StaysOutside file new roots
    → HasRoots file roots → begins_bmff new ≡ true
begins_in file new roots size s h = go roots refl
  where
    eight : (form : SizeForm) → 8 ≤ header_len form
    eight short = omega arith
    eight long = omega arith
    eight to_end = omega arith

    part : (n : ℕ) (xs : List ℕ) → 8 ≤ n → take 4 (drop 4 (take n xs)) ≡ take 4 (drop 4 xs)
    part n xs k =
        let e : 4 + (n - 4) ≡ n = omega (arith, k) in
        ap (λ m. take 4 (drop 4 (take m xs))) (sym e) ∙ ap (take 4) (drop-take 4 (n - 4) xs)
        ∙ take-take 4 (n - 4) (drop 4 xs) (omega (arith, k))

    go : (bs : List Box) → roots ≡ bs → begins_bmff new ≡ true
    go [] e = absurd (let bad = sym h.begins ∙ ap begins_bmff (h.bytes ∙ ap (flat_map box_bytes) e) in cc (bad))
    go (b ∷ bs) e =
        let c : PlacedBox = record { at = 0; box = b } in
        let m : Member c (placed_from 0 roots) =
        subst (λ (xs : List Box). Member c (placed_from 0 xs)) (sym e) (inl refl) in
        let same : take (header_len b.form) new ≡ take (header_len b.form) file =
        header_stays file new roots c size s m in
        ap (λ (xs : List ℕ). bytes_eq xs (codes "ftyp"))
        (sym (part (header_len b.form) new (eight b.form)) ∙ ap (λ (xs : List ℕ). take 4 (drop 4 xs)) same ∙ part (header_len b.form) file (eight b.form))
        ∙ h.begins

-- the new file begins with the two bytes that the file begins with
starts_in : (file new : List ℕ) (roots : List Box) → length new ≡ length file → StaysOutside file new roots
    → HasRoots file roots → take 2 new ≡ take 2 file
starts_in file new roots size s h = go roots refl
  where
    two : (form : SizeForm) → 2 ≤ header_len form
    two short = omega arith
    two long = omega arith
    two to_end = omega arith

    go : (bs : List Box) → roots ≡ bs → take 2 new ≡ take 2 file
    go [] e = absurd (let bad = sym h.begins ∙ ap begins_bmff (h.bytes ∙ ap (flat_map box_bytes) e) in cc (bad))
    go (b ∷ bs) e =
        let c : PlacedBox = record { at = 0; box = b } in
        let m : Member c (placed_from 0 roots) =
        subst (λ (xs : List Box). Member c (placed_from 0 xs)) (sym e) (inl refl) in
        let same : take (header_len b.form) new ≡ take (header_len b.form) file =
        header_stays file new roots c size s m in
        sym (take-take 2 (header_len b.form) new (two b.form)) ∙ ap (take 2) same
        ∙ take-take 2 (header_len b.form) file (two b.form)

-- the boxes are in the same forms
same_forms : (new : List ℕ) (p : ℕ) (bs : List Box)
    → map (λ (b : Box). b.form) (map (box_in new) (placed_from p bs)) ≡ map (λ (b : Box). b.form) bs
same_forms new p [] = refl
same_forms new p (b ∷ bs) = ap (λ (fs : List SizeForm). b.form ∷ fs) (same_forms new (p + box_len b) bs)

-- the first is as long
first_len : (new : List ℕ) (bs : List Box) → AreBoxForms bs → boxes_len bs ≤ length new
    → boxes_len (take 1 (map (box_in new) (placed_from 0 bs))) ≡ boxes_len (take 1 bs)
first_len new [] f inside = refl
first_len new (b ∷ bs) f inside =
    let is : IsBox b = first_box b bs f in
    let c : PlacedBox = record { at = 0; box = b } in
    let up : 0 + box_len b ≤ length new =
    omega (arith, inside, length-append (box_bytes b) (flat_map box_bytes bs), bytes_size b is) in
    ap length (append-nil (box_bytes (box_in new c))) ∙ bytes_size (box_in new c) (in_is new c is up) ∙ in_len new c up
    ∙ sym (bytes_size b is) ∙ ap length (sym (append-nil (box_bytes b)))

-- ---- fields behind the first box

-- a `moov` stands behind the first box, which is of type `ftyp`
moov_behind : (file : List ℕ) (roots : List Box) (b : PlacedBox) → HasRoots file roots → Member b (placed_from 0 roots)
    → bytes_eq b.box.kind moov_kind ≡ true → boxes_len (take 1 roots) ≤ b.at
moov_behind file roots b h m k = go roots refl
  where
    go : (bs : List Box) → roots ≡ bs → boxes_len (take 1 roots) ≤ b.at
    go [] e = absurd (subst (λ (xs : List Box). Member b (placed_from 0 xs)) e m)
    go (c ∷ cs) e =
        let is : IsBox c = first_box c cs (subst AreBoxForms e h.forms) in
        let len : boxes_len (take 1 roots) ≡ box_len c =
        ap (λ (xs : List Box). boxes_len (take 1 xs)) e ∙ ap length (append-nil (box_bytes c)) ∙ bytes_size c is in
        let first : begins_bmff file ≡ bytes_eq c.kind (codes "ftyp") =
        ap begins_bmff (h.bytes ∙ ap (flat_map box_bytes) e)
        ∙ ap (λ (x : List ℕ). bytes_eq x (codes "ftyp"))
        (tells c.form c.kind c.payload (flat_map box_bytes cs) is.kind is).kind_is in
        let ftyp : c.kind ≡ codes "ftyp" = (bytes_eq-Decides c.kind (codes "ftyp")).0 (sym first ∙ h.begins) in
        let member : Member b (placed_from 0 (c ∷ cs)) = subst (λ (xs : List Box). Member b (placed_from 0 xs)) e m in
        ⊎_elim
        (λ (q : b ≡ record { at = 0; box = c }). absurd (let bad : true ≡ false = sym k ∙ ap (λ (x : PlacedBox). bytes_eq x.box.kind moov_kind) q ∙ ap (λ (x : List ℕ). bytes_eq x moov_kind) ftyp in cc (bad)))
        (λ (n : Member b (placed_from (0 + box_len c) cs)). omega (arith, len, begins_from (0 + box_len c) cs b n))
        member

-- the fields in a `moov` stand behind the first box
pub fields_behind : FieldsLieBehind
unfolding chunk_tables shift_refusals
fields_behind file roots f bytes h e c =
    let l : LiesIn moov_kind (rows_of roots) f =
    below_lies file (are_bytes file bytes) h.fits moov_kind
    (codes "trak" ∷ codes "mdia" ∷ codes "minf" ∷ codes "stbl" ∷ []) 0 (length file) (rows_of roots) f
    (roots_apart file roots h) (omega arith)
    (none_both (root_refusals (rows_of roots)) (refusals_below file table_path (rows_of roots)) e).1 (to_member _ f c) in
    let b = row_member (placed_from 0 roots) l.0 l.1 in
    let kind : bytes_eq b.0.box.kind moov_kind ≡ true =
    sym (ap (λ (r : RootBox). bytes_eq r.kind moov_kind) b.2) ∙ l.2 in
    let at : l.0.start ≡ b.0.at = ap (λ (r : RootBox). r.start) b.2 in
    omega (arith, moov_behind file roots b.0 h b.1 kind, at, l.3)

-- a `moov` has no part in a store
moov_other : (b : Box) → bytes_eq b.kind moov_kind ≡ true → is_other_box b ≡ true
unfolding is_other_box is_c2pa_box
moov_other b e =
    let kind : b.kind ≡ moov_kind = (bytes_eq-Decides b.kind moov_kind).0 e in
    ap
    (λ (k : List ℕ). not (bytes_eq k uuid_kind && bytes_eq (take 16 b.payload) c2pa_user_type) || (is_version_zero (content_of b) && not (is_for_manifest (content_of b))))
    kind

-- boxes with no part in a store still have none
others_in : (file new : List ℕ) (roots : List Box) → length new ≡ length file → StaysOutside file new roots
    → (p : ℕ) (bs : List Box) → AllByRecursion IsBox bs → p ≤ length file → drop p file ≡ flat_map box_bytes bs
    → ((b : PlacedBox) → Member b (placed_from p bs) → Member b (placed_from 0 roots))
    → AllByRecursion (λ (b : Box). is_other_box b ≡ true) bs
    → AllByRecursion (λ (b : Box). is_other_box b ≡ true) (map (box_in new) (placed_from p bs))
others_in file new roots size s p [] is inside e m h = tt
others_in file new roots size s p (b ∷ bs) is inside e m h =
    let len : length (box_bytes b) ≡ box_len b = bytes_size b is.0 in
    let total : length file - p ≡ box_len b + length (flat_map box_bytes bs) =
    sym (length-drop p file) ∙ ap length e ∙ length-append (box_bytes b) (flat_map box_bytes bs)
    ∙ ap (λ n. n + length (flat_map box_bytes bs)) len in
    let up : p + box_len b ≤ length file = omega (arith, total, inside) in
    let next : drop (p + box_len b) file ≡ flat_map box_bytes bs =
    sym (drop-drop (box_len b) p file) ∙ ap (drop (box_len b)) e
    ∙ drop_at (box_bytes b) (flat_map box_bytes bs) (box_len b) len in
    (go (bytes_eq b.kind moov_kind) refl, others_in file new roots size s (p + box_len b) bs is.1 up next (λ x n. m x (inr n)) h.1)
  where
    c : PlacedBox
    c = record { at = p; box = b }

    head : List ℕ
    head = header_bytes b.form (box_len b) b.kind

    was : take (length b.payload) (drop (p + header_len b.form) file) ≡ b.payload
    was =
        ap (take (length b.payload))
        (sym (drop-drop (header_len b.form) p file) ∙ ap (drop (header_len b.form)) (e ∙ append_assoc head b.payload (flat_map box_bytes bs)) ∙ drop_at head (b.payload ++ flat_map box_bytes bs) (header_len b.form) (header_size b.form (box_len b) b.kind is.0.kind))
        ∙ take_at b.payload (flat_map box_bytes bs) (length b.payload) refl

    go : (t : Bool) → bytes_eq b.kind moov_kind ≡ t → is_other_box (box_in new c) ≡ true
    go true k = moov_other (box_in new c) k
    go false k =
        ap (λ (payload : List ℕ). is_other_box (record { form = b.form; kind = b.kind; payload = payload }))
        (payload_stays file new roots c size s (m c (inl refl)) k ∙ was)
        ∙ h.0

-- the shifted file has the root boxes that the file had
pub roots_shifted : RootsAreShifted
roots_shifted from by file new roots bytes h e s =
    let stays : StaysOutside file new roots = outside from by file new roots (are_bytes file bytes) h e s in
    let is : AllByRecursion IsBox roots = form_boxes roots h.forms in
    let size : 0 + boxes_len roots ≡ length file = omega (arith, ap length h.bytes) in
    record {
      has_roots = record {
        fits = omega (arith, h.fits, s.size);
        begins = begins_in file new roots s.size stays h;
        bytes = boxes_in file new roots s.size stays 0 roots is (omega arith) h.bytes (λ b m. m);
        forms = forms_in new 0 roots h.forms (omega (arith, size, s.size));
        few = omega (arith, count_in new 0 roots, h.few);
      };
      starts = starts_in file new roots s.size stays h;
      first = first_len new roots h.forms (omega (arith, size, s.size));
      forms = same_forms new 0 roots;
      count = count_in new 0 roots;
      others = λ others. others_in file new roots s.size stays 0 roots is (omega arith) h.bytes (λ b m. m) others;
    }
