-- A file that is cleared of its store is its base.
use Rattle.std.proofs.Common.{◌≡◌, ℕ, ◌+◌, ◌≤◌, Bool, true, false, cond, ◌==◌, List, [], ◌∷◌, ◌++◌, length, drop, map, refl, sym, ap, ap₂, ◌∙◌, subst, arith, append_assoc, length-append}
use Rattle.std.specs.List.{flat_map, AllByRecursion}
use Rattle.std.proofs.lemmas.Bool.{eq-eqb}
use Rattle.std.proofs.lemmas.Grind.{flat_map-append}
use Rattle.std.proofs.lemmas.List.{take_at, drop_at}
use Rattle.c2_base.specs.declared.values.Range.{Range}
use Rattle.c2_spec.specs.Bmff.Boxes.{Box, IsBox, box_bytes, box_len, boxes_len, header_len}
use Rattle.c2_spec.specs.Bmff.Paths.{placed_from}
use Rattle.c2_spec.specs.Bmff.Store.{HasBmffStore}
use Rattle.c2_spec.specs.Bmff.Writing.{IsBmffBase, base_roots, freed, is_file_end, without}
use Rattle.c2_spec.specs.PutIn.{taken_out}
use Rattle.c2_spec.proofs.BmffOneList.{roots_once}
use Rattle.c2_spec.proofs.BmffSizes.{bytes_size}
use Rattle.c2_bmff_boxes.specs.Roots.{AreRootsOf}
use Rattle.c2_bmff_rows.specs.Rows.{row_of, rows_of}
use Rattle.c2_bmff_rows.specs.declared.row.RootBox.{RootBox}
use Rattle.c2_bmff_rows.proofs.StandLemmas.{form_boxes}
use Rattle.c2_without_store.specs.Clears.{ClearsTo, cleared, clearing_in, ends_file, row_range}
use Rattle.c2_without_store.specs.declared.clearing.Clearing.{Clearing}
use Rattle.c2_without_store.specs.declared.clearing.Clearing.TheVariants.{Cut, Freed}
use Rattle.c2_without_store.proofs.FreedBoxes.{freed_file}
use Rattle.c2_lemmas.proofs.Each.{each_back, each_front}
use Rattle.c2_lemmas.proofs.Numbers.{not_equal}
use Rattle.c2_spec.proofs.BmffShared.{boxes_length_more, parts_are}
use Rattle.c2_spec.proofs.Openings.{some_header}

-- ---- lists

-- ---- the row that is cleared

-- nothing but one `mfra` stands behind a box, by the rows
pub ends_is : (p : ℕ) (bs : List Box) → ends_file (map row_of (placed_from p bs)) ≡ is_file_end bs
ends_is p [] = refl
ends_is p (b ∷ []) = refl
ends_is p (b ∷ c ∷ cs) = refl

-- how a box among others is cleared away, by the rows
clearing_at : (p : ℕ) (before : List Box) (b : Box) (after : List Box) (start : ℕ) → AllByRecursion IsBox before
    → start ≡ p + boxes_len before
    → clearing_in start (map row_of (placed_from p (before ++ b ∷ after))) ≡ cond (is_file_end after) (Cut (row_range (row_of (record { at = start; box = b })))) (Freed (row_of (record { at = start; box = b })))
clearing_at p [] b after start h e =
    let here : p ≡ start = omega (arith, e) in
    ap (λ (t : Bool). cond t (cond (ends_file (map row_of (placed_from (p + box_len b) after))) (Cut (row_range (row_of (record { at = p; box = b })))) (Freed (row_of (record { at = p; box = b }))))
    (clearing_in start (map row_of (placed_from (p + box_len b) after)))) (eq-eqb p start here)
    ∙ ap₂
    (λ (t : Bool) (n : ℕ). cond t (Cut (row_range (row_of (record { at = n; box = b })))) (Freed (row_of (record { at = n; box = b }))))
    (ends_is (p + box_len b) after) here
clearing_at p (c ∷ cs) b after start h e =
    let more : boxes_len (c ∷ cs) ≡ box_len c + boxes_len cs = boxes_length_more c cs h.0 in
    let header : 8 ≤ header_len c.form = some_header c.form in
    let other : (p == start) ≡ false = not_equal p start (λ same. omega (arith, same, e, more, header)) in
    ap (λ (t : Bool). cond t (cond (ends_file (map row_of (placed_from (p + box_len c) (cs ++ b ∷ after)))) (Cut (row_range (row_of (record { at = p; box = c })))) (Freed (row_of (record { at = p; box = c }))))
    (clearing_in start (map row_of (placed_from (p + box_len c) (cs ++ b ∷ after))))) other
    ∙ clearing_at (p + box_len c) cs b after start h.1 (omega (arith, e, more))

-- ---- what is left

-- a box is cut out of others
cut_left : (before : List Box) (b : Box) (after : List Box) (range : Range) → IsBox b → range.start ≡ boxes_len before
    → range.length ≡ box_len b
    → taken_out range.start range.length (flat_map box_bytes (before ++ b ∷ after)) ≡ flat_map box_bytes (before ++ after)
cut_left before b after range is from for =
    let front : List ℕ = flat_map box_bytes before in
    let back : List ℕ = flat_map box_bytes after in
    let place : length (front ++ box_bytes b) ≡ range.start + range.length =
    omega (arith, length-append front (box_bytes b), bytes_size b is, from, for) in
    ap (λ (xs : List ℕ). taken_out range.start range.length xs) (parts_are before b after)
    ∙ ap₂ (λ (xs ys : List ℕ). xs ++ ys) (take_at front (box_bytes b ++ back) range.start (sym from))
    (ap (drop (range.start + range.length)) (sym (append_assoc front (box_bytes b) back)) ∙ drop_at (front ++ box_bytes b) back (range.start + range.length) place)
    ∙ sym (flat_map-append box_bytes before after)

-- a box is freed among others
freed_left : (before : List Box) (b : Box) (after : List Box) (at : ℕ) → IsBox b → at ≡ boxes_len before
    → cleared (Freed (row_of (record { at = at; box = b }))) (flat_map box_bytes (before ++ b ∷ after)) ≡ flat_map box_bytes (before ++ freed b ∷ after)
freed_left before b after at is from =
    ap (cleared (Freed (row_of (record { at = at; box = b })))) (parts_are before b after)
    ∙ freed_file (flat_map box_bytes before) b (flat_map box_bytes after) (row_of (record { at = at; box = b })) is from
    refl refl
    ∙ sym (parts_are before (freed b) after)

-- the boxes of the base are left, whether the range is cut out or the box is freed
left_is : (before : List Box) (b : Box) (after : List Box) (range : Range) → IsBox b → range.start ≡ boxes_len before
    → range.length ≡ box_len b
    → cleared (cond (is_file_end after) (Cut range) (Freed (row_of (record { at = range.start; box = b })))) (flat_map box_bytes (before ++ b ∷ after)) ≡ flat_map box_bytes (base_roots before b after)
left_is before b after range is from for = go (is_file_end after)
  where
    go : (t : Bool)
        → cleared (cond t (Cut range) (Freed (row_of (record { at = range.start; box = b })))) (flat_map box_bytes (before ++ b ∷ after)) ≡ flat_map box_bytes (cond t (before ++ after) (before ++ freed b ∷ after))
    go true = cut_left before b after range is from for
    go false = freed_left before b after range.start is from

-- ---- the base

-- the boxes of a file whose store is found among them, by their rows
pub record FoundAmong (rows : List RootBox) (start len : ℕ) (before : List Box) (holder : Box) (after : List Box) : Type 0 where
  pub all : AllByRecursion IsBox (before ++ holder ∷ after)
  pub is : IsBox holder
  pub split : rows ≡ rows_of (before ++ holder ∷ after)
  pub from : start ≡ boxes_len before
  pub for : len ≡ box_len holder

-- so it is with each store that is found
pub found_among : (file : List ℕ) (rows : List RootBox) (start len : ℕ) (store : List ℕ) → AreRootsOf file rows
    → (h : HasBmffStore file start len store) → FoundAmong rows start len h.holds.before h.holds.holder h.holds.after
found_among file rows start len store r h =
    let s = h.holds in
    let once : r.boxes ≡ h.roots = roots_once file r.boxes h.roots r.has_roots h.has_roots in
    let all : AllByRecursion IsBox (s.before ++ s.holder ∷ s.after) =
    subst (AllByRecursion IsBox) s.split (form_boxes h.roots h.has_roots.forms) in
    record {
      all = all;
      is = (each_back IsBox s.before (s.holder ∷ s.after) all).0;
      split = r.are ∙ ap rows_of (once ∙ s.split);
      from = s.from;
      for = s.for;
    }

-- a file with a store is cleared to its base
pub store_base : (file : List ℕ) (rows : List RootBox) (start len : ℕ) (store : List ℕ) → AreRootsOf file rows
    → (h : HasBmffStore file start len store)
    → IsBmffBase file (cleared (clearing_in start rows) file) (base_roots h.holds.before h.holds.holder h.holds.after)
store_base file rows start len store r h =
    let s = h.holds in
    let f = found_among file rows start len store r h in
    let row : RootBox = row_of (record { at = start; box = s.holder }) in
    let how : clearing_in start rows ≡ cond (is_file_end s.after) (Cut (row_range row)) (Freed row) =
    ap (clearing_in start) f.split ∙ clearing_at 0 s.before s.holder s.after start (each_front IsBox s.before (s.holder ∷ s.after) f.all) (omega (arith, s.from)) in
    let bytes : file ≡ flat_map box_bytes (s.before ++ s.holder ∷ s.after) =
    h.has_roots.bytes ∙ ap (flat_map box_bytes) s.split in
    record {
      boxes = h.roots;
      has_roots = h.has_roots;
      are = without start len store s refl;
      bytes =
          ap₂ (λ (c : Clearing) (f : List ℕ). cleared c f) how bytes
          ∙ left_is s.before s.holder s.after (row_range row) f.is s.from refl;
    }

-- so what is left of it is one
pub clears_store : (file : List ℕ) (rows : List RootBox) (start len : ℕ) (store : List ℕ) → AreRootsOf file rows
    → HasBmffStore file start len store → ClearsTo file (clearing_in start rows)
clears_store file rows start len store r h =
    (base_roots h.holds.before h.holds.holder h.holds.after, store_base file rows start len store r h)
