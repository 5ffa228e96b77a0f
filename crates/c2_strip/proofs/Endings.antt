-- Where the box of a store stands among root boxes, by their rows.
use Rattle.std.proofs.Common.{◌≡◌, ℕ, suc, ◌+◌, ◌-◌, ◌<◌, ◌≤◌, Bool, false, ◌||◌, ◌&&◌, ◌==◌, List, [], ◌∷◌, ◌++◌, length, map, get_or, refl, sym, ap, ap₂, ◌∙◌, subst, arith}
use Rattle.std.specs.List.{AllByRecursion}
use Rattle.std.specs.Str.{bytes_eq}
use Rattle.std.proofs.lemmas.Bool.{eq-eqb}
use Rattle.c2_base.specs.declared.values.Range.{Range}
use Rattle.c2_spec.specs.Bmff.Boxes.{SizeForm, short, long, to_end, Box, IsBox, box_len, boxes_len, header_len}
use Rattle.c2_spec.specs.Bmff.Paths.{placed_from}
use Rattle.c2_spec.specs.Bmff.Store.{HasBmffStore}
use Rattle.c2_spec.specs.Bmff.Writing.{is_file_end, mfra_kind}
use Rattle.c2_spec.proofs.BmffOneList.{roots_once}
use Rattle.c2_bmff_boxes.specs.Roots.{AreRootsOf}
use Rattle.c2_bmff_rows.specs.Rows.{row_of, rows_of}
use Rattle.c2_bmff_rows.specs.declared.row.RootBox.{RootBox}
use Rattle.c2_bmff_rows.proofs.StandLemmas.{form_boxes}
use Rattle.c2_strip.specs.Endings.{ends_with, is_last}
use Rattle.c2_lemmas.proofs.Each.{each_front}
use Rattle.c2_lemmas.proofs.Numbers.{not_equal}
use Rattle.c2_spec.proofs.BmffShared.{boxes_length_more}

-- the last of rows
pub last_row : (range : Range) (rows : List RootBox) (d : RootBox) → 0 < length rows
    → is_last range rows ≡ ends_with range (get_or rows (length rows - 1) d)
last_row range [] d some = absurd (omega arith)
last_row range (r ∷ []) d some = let e : length (r ∷ []) - 1 ≡ 0 = omega arith in ap (λ (n : ℕ). ends_with range (get_or (r ∷ []) n d)) (sym e)
last_row range (r ∷ s ∷ rs) d some =
    let e : length (r ∷ s ∷ rs) - 1 ≡ suc (length (s ∷ rs) - 1) = omega arith in
    last_row range (s ∷ rs) d (omega arith) ∙ ap (λ (n : ℕ). ends_with range (get_or (r ∷ s ∷ rs) n d)) (sym e)

-- a box has a header
some_box : (b : Box) → 8 ≤ box_len b
some_box b = let h : 8 ≤ header_len b.form = some b.form in omega (arith, h)
  where
    some : (f : SizeForm) → 8 ≤ header_len f
    some short = omega arith
    some long = omega arith
    some to_end = omega arith

-- a row behind the end of a range is no last one of it
behind_row : (range : Range) (p : ℕ) (b : Box) → range.start + range.length < p
    → ends_with range (row_of (record { at = p; box = b })) ≡ false
behind_row range p b h =
    ap₂ (λ (s t : Bool). s || (t && bytes_eq b.kind mfra_kind)) (not_equal p range.start (λ e. omega (arith, e, h)))
    (not_equal p (range.start + range.length) (λ e. omega (arith, e, h)))

-- of all rows behind the end of a range none is its last
behind_rows : (range : Range) (p : ℕ) (bs : List Box) → range.start + range.length < p
    → is_last range (map row_of (placed_from p bs)) ≡ false
behind_rows range p [] h = refl
behind_rows range p (b ∷ []) h = behind_row range p b h
behind_rows range p (b ∷ c ∷ cs) h = behind_rows range (p + box_len b) (c ∷ cs) (omega (arith, h))

-- the rows end so exactly where the file does, behind the box or behind an `mfra` that follows it
last_at : (range : Range) (p : ℕ) (before : List Box) (b : Box) (after : List Box) → AllByRecursion IsBox before
    → range.start ≡ p + boxes_len before → range.length ≡ box_len b
    → is_last range (map row_of (placed_from p (before ++ b ∷ after))) ≡ is_file_end after
last_at range p [] b [] h from for =
    let here : p ≡ range.start = omega (arith, from) in
    ap (λ (s : Bool). s || ((p == range.start + range.length) && bytes_eq b.kind mfra_kind)) (eq-eqb p range.start here)
last_at range p [] b (c ∷ []) h from for =
    let some : 8 ≤ box_len b = some_box b in
    let next : p + box_len b ≡ range.start + range.length = omega (arith, from, for) in
    ap₂ (λ (s t : Bool). s || (t && bytes_eq c.kind mfra_kind))
    (not_equal (p + box_len b) range.start (λ e. omega (arith, e, from, some)))
    (eq-eqb (p + box_len b) (range.start + range.length) next)
last_at range p [] b (c ∷ d ∷ ds) h from for =
    let some : 8 ≤ box_len c = some_box c in
    behind_rows range (p + box_len b + box_len c) (d ∷ ds) (omega (arith, from, for, some))
last_at range p (c ∷ []) b after h from for =
    let more : boxes_len (c ∷ []) ≡ box_len c + boxes_len [] = boxes_length_more c [] h.0 in
    last_at range (p + box_len c) [] b after tt (omega (arith, from, more)) for
last_at range p (c ∷ d ∷ ds) b after h from for =
    let more : boxes_len (c ∷ d ∷ ds) ≡ box_len c + boxes_len (d ∷ ds) = boxes_length_more c (d ∷ ds) h.0 in
    last_at range (p + box_len c) (d ∷ ds) b after h.1 (omega (arith, from, more)) for

-- the box of a file's store is last, or a last `mfra` alone follows it, exactly where the rows end so
pub last_is : (file : List ℕ) (rows : List RootBox) (range : Range) (store : List ℕ) → AreRootsOf file rows
    → (h : HasBmffStore file range.start range.length store) → is_last range rows ≡ is_file_end h.holds.after
last_is file rows range store r h =
    let s = h.holds in
    let once : r.boxes ≡ h.roots = roots_once file r.boxes h.roots r.has_roots h.has_roots in
    let all : AllByRecursion IsBox (s.before ++ s.holder ∷ s.after) =
    subst (AllByRecursion IsBox) s.split (form_boxes h.roots h.has_roots.forms) in
    let split : rows ≡ rows_of (s.before ++ s.holder ∷ s.after) = r.are ∙ ap rows_of (once ∙ s.split) in
    ap (is_last range) split
    ∙ last_at range 0 s.before s.holder s.after (each_front IsBox s.before (s.holder ∷ s.after) all)
    (omega (arith, s.from)) s.for
