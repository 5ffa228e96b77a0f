-- The positions that an exclusion excludes, by the rows of boxes.
use Rattle.std.proofs.Common.{◌≡◌, ℕ, ◌+◌, ◌-◌, ◌≤◌, true, leb, ltb, List, [], ◌∷◌, ◌++◌, length, take, drop, Option, Some, None, refl, sym, ap, ◌∙◌, arith}
use Rattle.std.specs.Prelude.{IfSome}
use Rattle.std.specs.List.{flat_map, AllByRecursion, list_any, list_all}
use Rattle.std.proofs.lemmas.Bool.{and_from, and_parts, le-leb, lt-ltb, eq-eqb}
use borrow.Author.Tests.{leb-true, ltb-true, eqb-true}
use Rattle.std.proofs.lemmas.List.{append-nil, drop-drop, drop-take, take-append-le}
use Rattle.std.proofs.lemmas.Slice.Eq.{bytes_eq-Decides}
use Rattle.c2_spec.specs.Bmff.Boxes.{Box, HasRoots, box_bytes, box_len}
use Rattle.c2_spec.specs.Bmff.Hash.{ByteTest, Exclusion, IsExcluded, IsExcludedBy, MeetsTest, in_subset}
use Rattle.c2_spec.specs.Bmff.Paths.{PlacedBox, placed_from}
use Rattle.c2_bmff_rows.specs.Paths.{on_rows, HasBox}
use Rattle.c2_bmff_excluded.specs.Marks.{excludes_row, has_length, holds_test, in_row, in_row_subset, marks, stands_at, takes}
use Rattle.c2_bmff_rows.specs.Rows.{row_of, rows_of, Stands}
use Rattle.c2_lemmas.proofs.Bytes.{AreBytes}
use Rattle.c2_spec.proofs.BmffSizes.{bytes_size}
use Rattle.c2_bmff_rows.proofs.StandLemmas.{form_boxes, all_stand}
use Rattle.c2_bmff_rows.proofs.PathRows.{OnRows, any_member, from_member, member_any, path_rows, rows_path, to_member}

-- a piece of a box is a piece of the file
piece_same : (file : List ℕ) (b : PlacedBox) (off n : ℕ) → Stands file b → off + n ≤ box_len b.box
    → take n (drop (b.at + off) file) ≡ take n (drop off (box_bytes b.box))
piece_same file b off n s fits =
    let size : length (box_bytes b.box) ≡ box_len b.box = bytes_size b.box s.is_box in
    ap (take n) (sym (drop-drop off b.at file) ∙ ap (drop off) s.bytes)
    ∙ sym (drop-take off n (box_bytes b.box ++ s.tail))
    ∙ ap (drop off) (take-append-le (off + n) (box_bytes b.box) s.tail (omega (arith, size, fits)))
    ∙ drop-take off n (box_bytes b.box)

-- a byte test holds, or not, by the row
test_row : (file : List ℕ) (b : PlacedBox) (t : ByteTest) → Stands file b → holds_test file (row_of b) t ≡ true
    → MeetsTest b.box t
test_row file b t s h =
    let parts =
    and_parts (leb (t.offset + length t.value) (box_len b.box)) (stands_at file (b.at + t.offset) t.value) h in
    let inside : t.offset + length t.value ≤ box_len b.box =
    leb-true (t.offset + length t.value) (box_len b.box) parts.0 in
    record
    { inside = inside; same = sym (piece_same file b t.offset (length t.value) s inside) ∙ (bytes_eq-Decides (take (length t.value) (drop (b.at + t.offset) file)) t.value).0 parts.1 }

-- a byte test that the box meets holds by its row
row_test : (file : List ℕ) (b : PlacedBox) (t : ByteTest) → Stands file b → MeetsTest b.box t
    → holds_test file (row_of b) t ≡ true
row_test file b t s m =
    and_from (leb (t.offset + length t.value) (box_len b.box)) (stands_at file (b.at + t.offset) t.value)
    (le-leb (t.offset + length t.value) (box_len b.box) m.inside)
    ((bytes_eq-Decides (take (length t.value) (drop (b.at + t.offset) file)) t.value).1 (piece_same file b t.offset (length t.value) s m.inside ∙ m.same))

-- where all byte tests hold by the row, the box meets them all
tests_rows : (file : List ℕ) (b : PlacedBox) (ts : List ByteTest) → Stands file b
    → list_all (holds_test file (row_of b)) ts ≡ true → AllByRecursion (MeetsTest b.box) ts
tests_rows file b [] s h = tt
tests_rows file b (t ∷ ts) s h = let parts = and_parts (holds_test file (row_of b) t) (list_all (holds_test file (row_of b)) ts) h in (test_row file b t s parts.0, tests_rows file b ts s parts.1)

-- where the box meets all byte tests, they hold by its row
rows_tests : (file : List ℕ) (b : PlacedBox) (ts : List ByteTest) → Stands file b → AllByRecursion (MeetsTest b.box) ts
    → list_all (holds_test file (row_of b)) ts ≡ true
rows_tests file b [] s h = refl
rows_tests file b (t ∷ ts) s h =
    and_from (holds_test file (row_of b) t) (list_all (holds_test file (row_of b)) ts) (row_test file b t s h.0)
    (rows_tests file b ts s h.1)

-- where the row has the stated length, the box has it
sized_row : (o : Option ℕ) (b : PlacedBox) → has_length o (row_of b) ≡ true → IfSome o (λ n. box_len b.box ≡ n)
sized_row None b h = tt
sized_row (Some n) b h = eqb-true (box_len b.box) n h

-- where the box has the stated length, its row has it
row_sized : (o : Option ℕ) (b : PlacedBox) → IfSome o (λ n. box_len b.box ≡ n) → has_length o (row_of b) ≡ true
row_sized None b h = refl
row_sized (Some n) b h = eq-eqb (box_len b.box) n h

-- the root boxes stand in their file
roots_stand : (file : List ℕ) (boxes : List Box) → HasRoots file boxes
    → AllByRecursion (Stands file) (placed_from 0 boxes)
roots_stand file boxes h =
    all_stand file 0 boxes [] (form_boxes boxes h.forms) (omega arith)
    (h.bytes ∙ sym (append-nil (flat_map box_bytes boxes)))

-- a position that the rows exclude is excluded
pub rows_excluded : (file : List ℕ) (boxes : List Box) (e : Exclusion) (i : ℕ) → AreBytes file → HasRoots file boxes
    → excludes_row file (rows_of boxes) i e ≡ true → IsExcludedBy boxes e i
rows_excluded file boxes e i bytes h ex =
    let r = any_member (marks file e i) (on_rows file (rows_of boxes) e.path) ex in
    let b : HasBox file (placed_from 0 boxes) e.path r.0 =
    rows_path file bytes h.fits e.path (placed_from 0 boxes) r.0 (roots_stand file boxes h) r.1 in
    let m : marks file e i (row_of b.box) ≡ true = ap (marks file e i) (sym b.is) ∙ r.2 in
    let both = and_parts (takes file e (row_of b.box)) (in_row_subset i (row_of b.box) e.subset) m in
    let take' =
    and_parts (has_length e.length (row_of b.box)) (list_all (holds_test file (row_of b.box)) e.tests) both.0 in
    let where' = and_parts (in_row i (row_of b.box)) (in_subset (i - b.box.at) e.subset) both.1 in
    let range = and_parts (leb b.box.at i) (ltb i (b.box.at + box_len b.box.box)) where'.0 in
    record {
      at = b.box;
      on_path = b.on;
      sized = sized_row e.length b.box take'.0;
      tests = tests_rows file b.box e.tests b.stands take'.1;
      from = leb-true b.box.at i range.0;
      to = ltb-true i (b.box.at + box_len b.box.box) range.1;
      part = where'.1;
    }

-- a position that an exclusion excludes is excluded by the rows
pub excluded_rows : (file : List ℕ) (boxes : List Box) (e : Exclusion) (i : ℕ) → AreBytes file → HasRoots file boxes
    → IsExcludedBy boxes e i → excludes_row file (rows_of boxes) i e ≡ true
excluded_rows file boxes e i bytes h ex =
    let b : OnRows file (on_rows file (rows_of boxes) e.path) ex.at =
    path_rows file bytes h.fits (placed_from 0 boxes) e.path ex.at ex.on_path (roots_stand file boxes h) in
    member_any (marks file e i) (on_rows file (rows_of boxes) e.path) (row_of ex.at) b.row
    (and_from (takes file e (row_of ex.at)) (in_row_subset i (row_of ex.at) e.subset)
    (and_from (has_length e.length (row_of ex.at)) (list_all (holds_test file (row_of ex.at)) e.tests) (row_sized e.length ex.at ex.sized) (rows_tests file ex.at e.tests b.stands ex.tests))
    (and_from (in_row i (row_of ex.at)) (in_subset (i - ex.at.at) e.subset) (and_from (leb ex.at.at i) (ltb i (ex.at.at + box_len ex.at.box)) (le-leb ex.at.at i ex.from) (lt-ltb i (ex.at.at + box_len ex.at.box) ex.to)) ex.part))

-- a position that one of the exclusions excludes
pub all_rows_excluded : (file : List ℕ) (boxes : List Box) (es : List Exclusion) (i : ℕ) → AreBytes file
    → HasRoots file boxes → list_any (excludes_row file (rows_of boxes) i) es ≡ true → IsExcluded boxes es i
all_rows_excluded file boxes es i bytes h ex =
    let e = any_member (excludes_row file (rows_of boxes) i) es ex in
    record { exclusion = e.0; is_one = from_member es e.0 e.1; excludes = rows_excluded file boxes e.0 i bytes h e.2 }

-- a position that one of the exclusions excludes is excluded by the rows
pub all_excluded_rows : (file : List ℕ) (boxes : List Box) (es : List Exclusion) (i : ℕ) → AreBytes file
    → HasRoots file boxes → IsExcluded boxes es i → list_any (excludes_row file (rows_of boxes) i) es ≡ true
all_excluded_rows file boxes es i bytes h ex =
    member_any (excludes_row file (rows_of boxes) i) es ex.exclusion (to_member es ex.exclusion ex.is_one)
    (excluded_rows file boxes ex.exclusion i bytes h ex.excludes)
