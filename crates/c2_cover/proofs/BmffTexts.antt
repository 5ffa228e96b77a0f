-- The text that box offsets and ranges tell is the covered text of the root boxes.
use Rattle.std.proofs.Common.{◌≡◌, ℕ, ◌+◌, ◌-◌, ◌<◌, ◌≤◌, ◌⊎◌, inl, inr, Bool, true, false, cond, not, List, [], ◌∷◌, ◌++◌, length, map, take, drop, refl, sym, ap, ap₂, subst, ◌∙◌, arith, append_assoc, length-append}
use Rattle.std.specs.Prelude.{◌↔◌}
use Rattle.std.specs.Int.{w64, to_be_bytes}
use Rattle.std.specs.List.{flat_map}
use Rattle.std.proofs.lemmas.List.{take_at, drop_at, drop-take, take-append-drop, length-take-le, length-drop, drop-drop}
use Rattle.c2_base.specs.declared.values.Range.{Range}
use Rattle.c2_bmff_rows.specs.Rows.{row_of, rows_of}
use Rattle.c2_bmff_rows.specs.declared.row.RootBox.{RootBox}
use Rattle.c2_spec.specs.Bmff.Boxes.{Box, IsBox, AreBoxForms, HasRoots, box_bytes, box_len}
use Rattle.c2_spec.specs.Bmff.Cover.{IsBmffCover, after_offset, bmff_text, root_text}
use Rattle.c2_spec.specs.Bmff.Hash.{Exclusion, IsExcluded}
use Rattle.c2_spec.specs.Bmff.Paths.{placed_from}
use Rattle.c2_spec.specs.Cover.{excluded_positions, is_excluded, kept_from}
use Rattle.c2_spec.proofs.Kept.{kept_append, kept_cons, kept_none}
use Rattle.c2_cover.specs.Covers.{Covered, IsCoverOf, excluded_of, text_of}
use Rattle.c2_cover.specs.Telling.{Follow, IsToldBy}
use Rattle.c2_cover.specs.BoxOffsets.{told_from, word_of, offsets_of}
use Rattle.c2_cover.specs.declared.offsets.BoxOffset.{BoxOffset}
use Rattle.c2_cover.proofs.TellingLemmas.{FirstLeft, NoneLeft, first_left, follow_rise, word_none, word_some}
use Rattle.c2_cover.proofs.ToldLemmas.{Rise, told_split}
use Rattle.c2_spec.proofs.BmffSizes.{bytes_size}

-- the first of boxes is one, and so are the others
first_form : (b : Box) (bs : List Box) → AreBoxForms (b ∷ bs) → IsBox b × AreBoxForms bs
first_form b [] f = (f, tt)
first_form b (c ∷ cs) f = (f.0.is_box, f.1)

-- what is left of bytes whose first one is kept
kept_first : (ex : ℕ → Bool) (at : ℕ) (xs : List ℕ) → ex at ≡ false → 0 < length xs → (start : ℕ)
    → after_offset start (kept_from ex at xs) ≡ to_be_bytes w64 start ++ kept_from ex at xs
kept_first ex at [] e l start = absurd (omega (arith, l))
kept_first ex at (x ∷ xs) e l start =
    let first : kept_from ex at (x ∷ xs) ≡ x ∷ kept_from ex (at + 1) xs =
    kept_cons ex at x xs ∙ ap (λ b. cond (not b) (x ∷ kept_from ex (at + 1) xs) (kept_from ex (at + 1) xs)) e in
    ap (after_offset start) first ∙ sym (ap (λ (ys : List ℕ). to_be_bytes w64 start ++ ys) first)

-- what a box of which some byte is left gives: its start, and what is left from the first such byte on
kept_box : (ex : ℕ → Bool) (p n k : ℕ) (xs : List ℕ) → length xs ≡ n → FirstLeft ex p n k
    → after_offset p (kept_from ex p xs) ≡ to_be_bytes w64 p ++ kept_from ex k (drop (k - p) xs)
kept_box ex p n k xs len f =
    let size : length (take (k - p) xs) ≡ k - p = length-take-le (k - p) xs (omega (arith, len, f.from, f.to)) in
    let place : p + length (take (k - p) xs) ≡ k = omega (arith, size, f.from) in
    let none : kept_from ex p (take (k - p) xs) ≡ [] =
    kept_none ex p (take (k - p) xs) (λ i a b. f.before i a (omega (arith, b, place))) in
    let split : kept_from ex p xs ≡ kept_from ex k (drop (k - p) xs) =
    ap (kept_from ex p) (sym (take-append-drop (k - p) xs))
    ∙ kept_append ex p (take (k - p) xs) (drop (k - p) xs)
    ∙ ap₂ (λ (ys : List ℕ) (i : ℕ). ys ++ kept_from ex i (drop (k - p) xs)) none place in
    ap (after_offset p) split
    ∙ kept_first ex k (drop (k - p) xs) f.here (omega (arith, length-drop (k - p) xs, len, f.from, f.to)) p

-- the rest of a file that begins with a box
record BoxFirst (p : ℕ) (b : Box) (bs : List Box) (file : List ℕ) : Type 0 where
  pub len : length (box_bytes b) ≡ box_len b
  pub first : take (box_len b) (drop p file) ≡ box_bytes b
  pub others : drop (p + box_len b) file ≡ flat_map box_bytes bs
  pub inside : p + box_len b ≤ length file

-- where a list of boxes stands, its first box stands first and the others behind it
box_first : (p : ℕ) (b : Box) (bs : List Box) (file : List ℕ) → IsBox b → p ≤ length file
    → drop p file ≡ flat_map box_bytes (b ∷ bs) → BoxFirst p b bs file
box_first p b bs file h l e =
    let len : length (box_bytes b) ≡ box_len b = bytes_size b h in
    let all : length (drop p file) ≡ length (box_bytes b) + length (flat_map box_bytes bs) =
    ap length e ∙ length-append (box_bytes b) (flat_map box_bytes bs) in
    record {
      len = len;
      first = ap (take (box_len b)) e ∙ take_at (box_bytes b) (flat_map box_bytes bs) (box_len b) len;
      others =
          sym (drop-drop (box_len b) p file) ∙ ap (drop (box_len b)) e
          ∙ drop_at (box_bytes b) (flat_map box_bytes bs) (box_len b) len;
      inside = omega (arith, all, len, length-drop p file, l);
    }

-- the rows of boxes from a place on
abbrev rows_from : ℕ → List Box → List RootBox
rows_from p bs = map row_of (placed_from p bs)

-- past a box of which nothing is left
box_none : (ex : ℕ → Bool) (ws : List BoxOffset) (p n : ℕ) (file : List ℕ) (text : List ℕ) → Rise (p + n) ws
    → p + n ≤ length file → NoneLeft ex p n → told_from ex ws (p + n) file ≡ text
    → told_from ex ws p file ≡ after_offset p (kept_from ex p (take n (drop p file))) ++ text
box_none ex ws p n file text rise i none more =
    let e : p + n - p ≡ n = omega arith in
    let len : length (take n (drop p file)) ≡ n = length-take-le n (drop p file) (omega (arith, length-drop p file)) in
    let nothing : kept_from ex p (take n (drop p file)) ≡ [] =
    kept_none ex p (take n (drop p file)) (λ i a b. none.all i a (omega (arith, b, len))) in
    told_split ex ws p (p + n) file rise (omega arith) i
    ∙ ap (λ k. kept_from ex p (take k (drop p file)) ++ told_from ex ws (p + n) file) e
    ∙ ap₂ (λ (xs ys : List ℕ). xs ++ ys) nothing more ∙ sym (ap (λ (xs : List ℕ). after_offset p xs ++ text) nothing)

-- past a box of which some byte is left
box_some : (ex : ℕ → Bool) (ws : List BoxOffset) (p n k : ℕ) (file : List ℕ) (text : List ℕ) → Rise (p + n) ws
    → p + n ≤ length file → FirstLeft ex p n k → told_from ex ws (p + n) file ≡ text
    → told_from ex (record { at = k; start = p } ∷ ws) p file
    ≡ after_offset p (kept_from ex p (take n (drop p file))) ++ text
box_some ex ws p n k file text rise i f more =
    let xs : List ℕ = take n (drop p file) in
    let len : length xs ≡ n = length-take-le n (drop p file) (omega (arith, length-drop p file)) in
    let len' : length (take (k - p) (drop p file)) ≡ k - p =
    length-take-le (k - p) (drop p file) (omega (arith, length-drop p file, f.from, f.to)) in
    let nothing : kept_from ex p (take (k - p) (drop p file)) ≡ [] =
    kept_none ex p (take (k - p) (drop p file)) (λ j a b. f.before j a (omega (arith, b, len', f.from))) in
    let second : take (p + n - k) (drop k file) ≡ drop (k - p) xs = rest_of_box p n k file f.from f.to in
    let tail : told_from ex ws k file ≡ kept_from ex k (drop (k - p) xs) ++ text =
    told_split ex ws k (p + n) file rise (omega (arith, f.to)) i
    ∙ ap₂ (λ (ys zs : List ℕ). kept_from ex k ys ++ zs) second more in
    ap₂ (λ (ys zs : List ℕ). ys ++ (to_be_bytes w64 p ++ zs)) nothing tail
    ∙ sym (append_assoc (to_be_bytes w64 p) (kept_from ex k (drop (k - p) xs)) text)
    ∙ sym (ap (λ (ys : List ℕ). ys ++ text) (kept_box ex p n k xs len f))
  where
    rest_of_box : (p n k : ℕ) (file : List ℕ) → p ≤ k → k < p + n
        → take (p + n - k) (drop k file) ≡ drop (k - p) (take n (drop p file))
    rest_of_box p n k file l m =
        let e : n ≡ (k - p) + (p + n - k) = omega arith in
        let f : p + (k - p) ≡ k = omega arith in
        sym
        (ap (λ j. drop (k - p) (take j (drop p file))) e ∙ drop-take (k - p) (p + n - k) (drop p file) ∙ ap (take (p + n - k)) (drop-drop (k - p) p file ∙ ap (λ j. drop j file) f))

-- the rows of boxes follow each other
follow_rows : (p : ℕ) (bs : List Box) → Follow p (rows_from p bs)
follow_rows p [] = tt
follow_rows p (b ∷ bs) = (refl, follow_rows (p + box_len b) bs)

-- box offsets and ranges tell what the boxes give
told_boxes : (ranges : List Range) (p : ℕ) (bs : List Box) (file : List ℕ) → AreBoxForms bs → p ≤ length file
    → drop p file ≡ flat_map box_bytes bs
    → told_from (is_excluded ranges) (offsets_of (is_excluded ranges) (rows_from p bs)) p file ≡ flat_map (root_text (is_excluded ranges)) (placed_from p bs)
told_boxes ranges p [] file forms l e = ap (kept_from (is_excluded ranges) p) e
told_boxes ranges p (b ∷ bs) file forms l e =
    let is : IsBox b × AreBoxForms bs = first_form b bs forms in
    let first : BoxFirst p b bs file = box_first p b bs file is.0 l e in
    let more = told_boxes ranges (p + box_len b) bs file is.1 first.inside first.others in
    go first more (first_left (is_excluded ranges) p (box_len b))
  where
    ex : ℕ → Bool
    ex = is_excluded ranges

    ws : List BoxOffset
    ws = offsets_of (is_excluded ranges) (rows_from (p + box_len b) bs)

    row : RootBox
    row = row_of (record { at = p; box = b })

    text : List ℕ
    text = flat_map (root_text (is_excluded ranges)) (placed_from (p + box_len b) bs)

    rise : Rise (p + box_len b) ws
    rise =
        follow_rise (is_excluded ranges) (p + box_len b) (rows_from (p + box_len b) bs) (follow_rows (p + box_len b) bs)

    go : BoxFirst p b bs file → told_from ex ws (p + box_len b) file ≡ text
        → NoneLeft ex p (box_len b) ⊎ ((k : ℕ) × FirstLeft ex p (box_len b) k)
        → told_from ex (word_of ex row ++ ws) p file ≡ root_text ex (record { at = p; box = b }) ++ text
    go first more (inl none) =
        ap (λ (xs : List BoxOffset). told_from ex (xs ++ ws) p file) (word_none ex row none)
        ∙ box_none ex ws p (box_len b) file text rise first.inside none more
        ∙ ap (λ (xs : List ℕ). after_offset p (kept_from ex p xs) ++ text) first.first
    go first more (inr (k, f)) =
        ap (λ (xs : List BoxOffset). told_from ex (xs ++ ws) p file) (word_some ex row k f)
        ∙ box_some ex ws p (box_len b) k file text rise first.inside f more
        ∙ ap (λ (xs : List ℕ). after_offset p (kept_from ex p xs) ++ text) first.first

-- words and ranges tell what all root boxes of a file give
pub told_roots : (ranges : List Range) (boxes : List Box) (file : List ℕ) (offsets : List BoxOffset)
    → HasRoots file boxes → offsets ≡ offsets_of (is_excluded ranges) (rows_of boxes)
    → told_from (is_excluded ranges) offsets 0 file ≡ bmff_text (is_excluded ranges) boxes
told_roots ranges boxes file offsets has e =
    ap (λ (ws : List BoxOffset). told_from (is_excluded ranges) ws 0 file) e
    ∙ told_boxes ranges 0 boxes file has.forms (omega arith) has.bytes

-- a cover with the box offsets of a file's root boxes, whose ranges exclude what the exclusions do, is what these leave of the file
pub bmff_cover_of :
    (file : List ℕ) (boxes : List Box) (rows : List RootBox) (exclusions : List Exclusion) (size : ℕ)
    (ranges given : List Range) (c d : Covered)
    → length file ≡ size → IsCoverOf size ranges c → ranges ≡ given → IsToldBy rows c d
    → ((i : ℕ) → (is_excluded given i ≡ true) ↔ IsExcluded boxes exclusions i) → HasRoots file boxes
    → rows ≡ rows_of boxes → IsBmffCover boxes (length file) exclusions (excluded_of d) (text_of d file)
bmff_cover_of file boxes rows exclusions size ranges given c d len cover e told exact has are =
    let same : (i : ℕ) → is_excluded d.ranges i ≡ is_excluded given i =
    λ i. ap (λ (rs : List Range). is_excluded rs i) told.ranges ∙ cover.same i
    ∙ ap (λ (rs : List Range). is_excluded rs i) e in
    let sized : d.size ≡ length file = told.size ∙ cover.size ∙ sym len in
    let follow : Follow 0 rows = subst (λ (xs : List RootBox). Follow 0 xs) (sym are) (follow_rows 0 boxes) in
    let offsets : d.offsets ≡ offsets_of (is_excluded d.ranges) (rows_of boxes) =
    told.all follow
    ∙ ap₂ (λ (rs : List Range) (xs : List RootBox). offsets_of (is_excluded rs) xs) (sym told.ranges) are in
    record {
      excludes = is_excluded d.ranges;
      exactly = λ i. (λ yes. (exact i).0 (sym (same i) ∙ yes), λ ex. same i ∙ (exact i).1 ex);
      positions = ap (excluded_positions d.ranges) sized;
      bytes = told_roots d.ranges boxes file d.offsets has offsets;
    }
