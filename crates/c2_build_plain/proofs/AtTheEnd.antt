-- A box that was put into a BMFF file at the place of a new store is last, or a last `mfra` alone follows it.
use Rattle.std.proofs.Common.{◌≡◌, ℕ, ◌+◌, ◌<◌, ◌≤◌, Bool, true, false, cond, List, [], ◌∷◌, ◌++◌, length}
use Rattle.std.proofs.Common.{take, drop, refl, sym, ap, ap₂, ◌∙◌, subst, arith, length-append}
use Rattle.std.specs.List.{flat_map, AllByRecursion}
use Rattle.std.proofs.lemmas.Grind.{flat_map-append}
use Rattle.std.proofs.lemmas.List.{take_at, drop_at, drop-drop}
use Rattle.c2_spec.specs.Bmff.Boxes.{Box, IsBox, AreBoxForms, HasRoots}
use Rattle.c2_spec.specs.Bmff.Boxes.{box_bytes, box_len, boxes_len}
use Rattle.c2_spec.specs.Bmff.Store.{HasBmffStore}
use Rattle.c2_spec.specs.Bmff.Writing.{before_mfra, insert_place, is_file_end, is_mfra}
use Rattle.c2_spec.specs.PutIn.{taken_out}
use Rattle.c2_spec.proofs.BmffOneList.{lists_once, other_boxes}
use Rattle.c2_spec.proofs.BmffSizes.{bytes_size}
use Rattle.c2_bmff_rows.proofs.StandLemmas.{form_boxes}
use Rattle.c2_lemmas.proofs.Each.{each_back}
use Rattle.c2_spec.proofs.Openings.{some_header}

-- ---- lists of boxes

-- a box has bytes
some_box : (b : Box) → IsBox b → 0 < length (box_bytes b)
some_box b is = omega (arith, some_header b.form, bytes_size b is)

-- boxes in their forms stay so less one of them
forms_less : (xs : List Box) (b : Box) (ys : List Box) → AreBoxForms (xs ++ b ∷ ys) → AreBoxForms (xs ++ ys)
forms_less [] b ys h = other_boxes b ys h
forms_less (x ∷ []) b [] h = h.0.is_box
forms_less (x ∷ []) b (y ∷ ys) h = (h.0, other_boxes b (y ∷ ys) h.1)
forms_less (x ∷ z ∷ zs) b ys h = (h.0, forms_less (z ∷ zs) b ys h.1)

-- the bytes of two lists of boxes
parts_len : (xs ys : List Box) → boxes_len (xs ++ ys) ≡ boxes_len xs + boxes_len ys
parts_len xs ys =
    ap length (flat_map-append box_bytes xs ys) ∙ length-append (flat_map box_bytes xs) (flat_map box_bytes ys)

-- the boxes before a last `mfra`, where some stand in front
mfra_behind : (xs : List Box) (c : Box) (ys : List Box) → before_mfra (xs ++ c ∷ ys) ≡ xs ++ before_mfra (c ∷ ys)
mfra_behind [] c ys = refl
mfra_behind (x ∷ []) c ys = refl
mfra_behind (x ∷ z ∷ zs) c ys = ap (λ (l : List Box). x ∷ l) (mfra_behind (z ∷ zs) c ys)

-- where no byte stands before a last `mfra`, there is that box alone or none
end_of : (ys : List Box) → AllByRecursion IsBox ys → boxes_len (before_mfra ys) ≡ 0 → is_file_end ys ≡ true
end_of [] h none = refl
end_of (c ∷ []) h none = by (is_mfra c) none
  where
    by : (b : Bool) → boxes_len (cond b [] (c ∷ [])) ≡ 0 → b ≡ true
    by true e = refl
    by false e = absurd (omega (arith, e, some_box c h.0, length-append (box_bytes c) (flat_map box_bytes [])))
end_of (c ∷ d ∷ ds) h none =
    absurd
    (omega (arith, none, some_box c h.0, length-append (box_bytes c) (flat_map box_bytes (before_mfra (d ∷ ds)))))

-- boxes that end where those before a last `mfra` do
split_end : (xs ys : List Box) → AllByRecursion IsBox ys → boxes_len xs ≡ boxes_len (before_mfra (xs ++ ys))
    → is_file_end ys ≡ true
split_end xs [] h e = refl
split_end xs (c ∷ cs) h e =
    let behind : boxes_len (before_mfra (xs ++ c ∷ cs)) ≡ boxes_len (xs ++ before_mfra (c ∷ cs)) =
    ap boxes_len (mfra_behind xs c cs) in
    end_of (c ∷ cs) h (omega (arith, e, behind, parts_len xs (before_mfra (c ∷ cs))))

-- ---- the file

-- boxes less one of them
cut_left : (xs : List Box) (b : Box) (ys : List Box) → IsBox b
    → taken_out (boxes_len xs) (box_len b) (flat_map box_bytes (xs ++ b ∷ ys)) ≡ flat_map box_bytes (xs ++ ys)
cut_left xs b ys is =
    let front : List ℕ = flat_map box_bytes xs in
    let back : List ℕ = flat_map box_bytes ys in
    let whole : List ℕ = flat_map box_bytes (xs ++ b ∷ ys) in
    let all : whole ≡ front ++ (box_bytes b ++ back) = flat_map-append box_bytes xs (b ∷ ys) in
    let behind : drop (boxes_len xs) whole ≡ box_bytes b ++ back =
    ap (drop (boxes_len xs)) all ∙ drop_at front (box_bytes b ++ back) (boxes_len xs) refl in
    ap₂ (λ (f r : List ℕ). f ++ r)
    (ap (take (boxes_len xs)) all ∙ take_at front (box_bytes b ++ back) (boxes_len xs) refl)
    (sym (drop-drop (box_len b) (boxes_len xs) whole) ∙ ap (drop (box_len b)) behind
    ∙ drop_at (box_bytes b) back (box_len b) (bytes_size b is))
    ∙ sym (flat_map-append box_bytes xs ys)

-- a file that is another one with the box of a store at the place of a new store has it at its end
pub put_at_end : (media file : List ℕ) (roots : List Box) (start len : ℕ) (store : List ℕ) → HasRoots media roots
    → (h : HasBmffStore file start len store) → taken_out start len file ≡ media → start ≡ insert_place roots
    → is_file_end h.holds.after ≡ true
put_at_end media file roots start len store m h left at =
    let s = h.holds in
    let all : List Box = s.before ++ s.holder ∷ s.after in
    let forms : AreBoxForms all = subst AreBoxForms s.split h.has_roots.forms in
    let behind = each_back IsBox s.before (s.holder ∷ s.after) (form_boxes all forms) in
    let whole : file ≡ flat_map box_bytes all = h.has_roots.bytes ∙ ap (flat_map box_bytes) s.split in
    let range : taken_out start len file ≡ taken_out (boxes_len s.before) (box_len s.holder) (flat_map box_bytes all) =
    ap₂ (λ (x y : ℕ). taken_out x y file) s.from s.for ∙ ap (taken_out (boxes_len s.before) (box_len s.holder)) whole in
    let cut = sym (range ∙ cut_left s.before s.holder s.after behind.0) ∙ left ∙ m.bytes in
    let same : s.before ++ s.after ≡ roots =
    lists_once (s.before ++ s.after) roots (forms_less s.before s.holder s.after forms) m.forms cut in
    split_end s.before s.after behind.1 (sym s.from ∙ at ∙ ap insert_place (sym same))

-- a store of a BMFF file begins in it
pub begins_inside : (file : List ℕ) (start len : ℕ) (store : List ℕ) → HasBmffStore file start len store
    → start ≤ length file
begins_inside file start len store h =
    let s = h.holds in
    let size : length file ≡ boxes_len (s.before ++ s.holder ∷ s.after) =
    ap length h.has_roots.bytes ∙ ap boxes_len s.split in
    omega (arith, size, s.from, parts_len s.before (s.holder ∷ s.after))
