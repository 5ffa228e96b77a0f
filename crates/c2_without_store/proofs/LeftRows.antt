-- The rows that are left of those of a file.
use Rattle.std.proofs.Common.{◌≡◌, ℕ, ◌+◌, ◌-◌, ◌≤◌, Bool, true, false, cond, ◌==◌, List, [], ◌∷◌, ◌++◌, map, refl, sym, ap, ◌∙◌, subst, arith}
use Rattle.std.proofs.lemmas.Bool.{eq-eqb}
use Rattle.std.specs.List.{AllByRecursion}
use Rattle.c2_spec.specs.Bmff.Boxes.{Box, IsBox, box_len, boxes_len, header_len}
use Rattle.c2_spec.specs.Bmff.Paths.{placed_from}
use Rattle.c2_spec.specs.Bmff.Store.{HasBmffStore, HasNoBmffStore, is_other_box}
use Rattle.c2_spec.specs.Bmff.Writing.{base_roots, freed, is_file_end, same}
use Rattle.c2_spec.proofs.BmffOneList.{roots_once}
use Rattle.c2_bmff_boxes.specs.Roots.{AreRootsOf, FillFile, FillSource}
use Rattle.c2_bmff_rows.specs.Rows.{row_of}
use Rattle.c2_bmff_rows.specs.declared.row.RootBox.{RootBox}
use Rattle.c2_without_store.specs.Clears.{AreRootsLeft, cleared, cleared_len, clearing_in, ends_file, freed_row, moved_row, no_range, row_range, rows_behind, rows_left}
use Rattle.c2_without_store.specs.Lengths.{cleared_fits}
use Rattle.c2_without_store.specs.declared.clearing.Clearing.TheVariants.{Cut, Freed}
use Rattle.c2_without_store.proofs.Clearings.{found_among, store_base}
use Rattle.c2_bmff_insert_spec.proofs.Bases.{freed_len}
use Rattle.c2_bmff_insert_spec.proofs.TheLaws.{a_base_has_no_store_none}
use Rattle.c2_lemmas.proofs.Each.{each_front}
use Rattle.c2_lemmas.proofs.Numbers.{not_equal}
use Rattle.c2_spec.proofs.BmffShared.{boxes_length_more}
use Rattle.c2_spec.proofs.Openings.{some_header}

-- ---- they fill what is left

-- behind a box that is cleared away
fill_behind : (size low : ℕ) (r : RootBox) (rs : List RootBox) → FillSource size low (r ∷ rs)
    → FillSource (cleared_len (cond (ends_file rs) (Cut (row_range r)) (Freed r)) size) low (rows_behind r rs)
fill_behind size low r [] h = omega (arith, h.0, h.3)
fill_behind size low r (s ∷ t ∷ rs) h = h
fill_behind size low r (s ∷ []) h = by (ends_file (s ∷ []))
  where
    by : (e : Bool)
        → FillSource (cleared_len (cond e (Cut (row_range r)) (Freed r)) size) low (cond e (moved_row r.length s ∷ []) (freed_row r ∷ s ∷ []))
    by true = (omega (arith, h.3.0), h.3.1, h.3.2, omega (arith, h.0, h.3.0, h.3.3))
    by false = h

-- whichever box is
pub fill_left : (start size low : ℕ) (rows : List RootBox) → FillSource size low rows
    → FillSource (cleared_len (clearing_in start rows) size) low (rows_left start rows)
fill_left start size low [] h = omega (arith, h)
fill_left start size low (r ∷ rs) h = by (r.start == start) (fill_left start size (low + r.length) rs h.3)
  where
    by : (b : Bool) → FillSource (cleared_len (clearing_in start rs) size) (low + r.length) (rows_left start rs)
        → FillSource (cleared_len (cond b (cond (ends_file rs) (Cut (row_range r)) (Freed r)) (clearing_in start rs)) size) low (cond b (rows_behind r rs) (r ∷ rows_left start rs))
    by true others = fill_behind size low r rs h
    by false others = (h.0, h.1, h.2, others)

-- all fill the file, where nothing is cut out
pub all_fill : (size : ℕ) (rows : List RootBox) → FillSource size 0 rows
    → FillSource (cleared_len (Cut no_range) size) 0 rows
all_fill size rows h = let all : size ≡ cleared_len (Cut no_range) size = omega arith in subst (λ (n : ℕ). FillSource n 0 rows) all h

-- so they fill a file
pub file_left : (start : ℕ) (rows : List RootBox) → FillFile rows → FillFile (rows_left start rows)
file_left start rows f = record {
  low = f.low;
  size = cleared_len (clearing_in start rows) f.size;
  fill = fill_left start f.size f.low rows f.fill;
  small = cleared_fits (clearing_in start rows) f.size f.small;
}

-- ---- they are those of its boxes

-- behind the box of a store
behind_is : (p : ℕ) (b : Box) (after : List Box)
    → rows_behind (row_of (record { at = p; box = b })) (map row_of (placed_from (p + box_len b) after)) ≡ map row_of (placed_from p (base_roots [] b after))
behind_is p b [] = refl
behind_is p b (c ∷ d ∷ ds) =
    ap
    (λ (n : ℕ). record (freed_row (row_of (record { at = p; box = b }))) { length = n } ∷ map row_of (placed_from (p + n) (c ∷ d ∷ ds)))
    (sym (freed_len b))
behind_is p b (c ∷ []) = by (is_file_end (c ∷ []))
  where
    by : (e : Bool)
        → cond e (moved_row (box_len b) (row_of (record { at = p + box_len b; box = c })) ∷ []) (freed_row (row_of (record { at = p; box = b })) ∷ row_of (record { at = p + box_len b; box = c }) ∷ [])
        ≡ map row_of (placed_from p (cond e (c ∷ []) (freed b ∷ c ∷ [])))
    by true = let here : p + box_len b - box_len b ≡ p = omega arith in ap (λ (n : ℕ). row_of (record { at = n; box = c }) ∷ []) here
    by false =
        ap
        (λ (n : ℕ). record (freed_row (row_of (record { at = p; box = b }))) { length = n } ∷ row_of (record { at = p + n; box = c }) ∷ [])
        (sym (freed_len b))

-- one more box before those of a base
base_more : (c : Box) (before : List Box) (b : Box) (after : List Box)
    → base_roots (c ∷ before) b after ≡ c ∷ base_roots before b after
base_more c before b after = by (is_file_end after)
  where
    by : (e : Bool)
        → cond e (c ∷ before ++ after) (c ∷ before ++ freed b ∷ after) ≡ c ∷ cond e (before ++ after) (before ++ freed b ∷ after)
    by true = refl
    by false = refl

-- among others
left_at : (p start : ℕ) (before : List Box) (b : Box) (after : List Box) → AllByRecursion IsBox before
    → start ≡ p + boxes_len before
    → rows_left start (map row_of (placed_from p (before ++ b ∷ after))) ≡ map row_of (placed_from p (base_roots before b after))
left_at p start [] b after h e =
    let here : p ≡ start = omega (arith, e) in
    let rest : List RootBox = map row_of (placed_from (p + box_len b) after) in
    ap
    (λ (t : Bool). cond t (rows_behind (row_of (record { at = p; box = b })) rest) (row_of (record { at = p; box = b }) ∷ rows_left start rest))
    (eq-eqb p start here)
    ∙ behind_is p b after
left_at p start (c ∷ cs) b after h e =
    let more : boxes_len (c ∷ cs) ≡ box_len c + boxes_len cs = boxes_length_more c cs h.0 in
    let header : 8 ≤ header_len c.form = some_header c.form in
    let other : (p == start) ≡ false = not_equal p start (λ same. omega (arith, same, e, more, header)) in
    let row : RootBox = row_of (record { at = p; box = c }) in
    let rest : List RootBox = map row_of (placed_from (p + box_len c) (cs ++ b ∷ after)) in
    ap (λ (t : Bool). cond t (rows_behind row rest) (row ∷ rows_left start rest)) other
    ∙ ap (λ (rs : List RootBox). row ∷ rs) (left_at (p + box_len c) start cs b after h.1 (omega (arith, e, more)))
    ∙ ap (λ (bs : List Box). map row_of (placed_from p bs)) (sym (base_more c cs b after))

-- so they are the root boxes of what is left of a file with a store
pub are_left : (file : List ℕ) (rows : List RootBox) (start len : ℕ) (store : List ℕ)
    → AreRootsOf file rows → HasBmffStore file start len store
    → AreRootsLeft file (clearing_in start rows) (rows_left start rows)
are_left file rows start len store r h =
    let s = h.holds in
    let f = found_among file rows start len store r h in
    let boxes : List Box = base_roots s.before s.holder s.after in
    let base = store_base file rows start len store r h in
    record {
      boxes = boxes;
      base = base;
      has_roots = (a_base_has_no_store_none file (cleared (clearing_in start rows) file) boxes base).0;
      are =
          ap (rows_left start) f.split
          ∙ left_at 0 start s.before s.holder s.after (each_front IsBox s.before (s.holder ∷ s.after) f.all)
          (omega (arith, s.from));
    }

-- all are, of a file without one
pub all_left : (file : List ℕ) (rows : List RootBox) → AreRootsOf file rows → HasNoBmffStore file
    → AreRootsLeft file (Cut no_range) rows
all_left file rows r h =
    let once : h.roots ≡ r.boxes = roots_once file h.roots r.boxes h.has_roots r.has_roots in
    let others = subst (AllByRecursion (λ b. is_other_box b ≡ true)) once h.none in
    record
    { boxes = r.boxes; base = record { boxes = r.boxes; has_roots = r.has_roots; are = same others refl; bytes = r.has_roots.bytes }; has_roots = r.has_roots; are = r.are }
