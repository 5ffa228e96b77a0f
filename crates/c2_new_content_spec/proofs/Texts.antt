-- What the exclusions of a new BMFF hash leave of a file with a store between its root boxes.
use Rattle.std.proofs.Common.{◌≡◌, ℕ, ◌+◌, Bool, true, false, cond, ◌||◌, List, [], ◌∷◌, ◌++◌, length, refl, sym, ap, ◌∙◌, subst, arith, append_assoc, length-append, bytes_eq}
use Rattle.std.specs.Int.{w64, to_be_bytes}
use Rattle.std.specs.List.{flat_map, AllByRecursion}
use Rattle.c2_spec.specs.Bmff.Boxes.{AreBoxForms, Box, HasRoots, IsBox, box_bytes, box_len, boxes_len, ftyp_kind}
use Rattle.c2_spec.specs.Bmff.Paths.{placed_from}
use Rattle.c2_spec.specs.Bmff.Writing.{before_mfra, built_part, built_text, c2pa_box, c2pa_frame_len, is_left_out, is_mfra, last_mfra}
use Rattle.c2_spec.proofs.BmffOneList.{first_box, other_boxes}
use Rattle.c2_spec.proofs.BmffSizes.{bytes_size}
use Rattle.c2_new_content_spec.specs.Holding.{BoxesTextIsTold}
use Rattle.c2_new_content_spec.specs.Splits.{boxes_text}
use Rattle.c2_bmff_insert_spec.proofs.Frames.{frame_len}
use Rattle.c2_bmff_insert_spec.proofs.Placing.{parts_are}

-- boxes before others are boxes
front_boxes : (xs ys : List Box) → AreBoxForms (xs ++ ys) → AllByRecursion IsBox xs
front_boxes [] ys f = tt
front_boxes (x ∷ xs) ys f = (first_box x (xs ++ ys) f, front_boxes xs ys (other_boxes x (xs ++ ys) f))

-- what boxes from a place on give: those before another place, and those from there on
parts_text : (at : ℕ) (xs ys : List Box) → AllByRecursion IsBox xs
    → flat_map built_part (placed_from at (xs ++ ys))
    ≡ flat_map built_part (placed_from at xs) ++ flat_map built_part (placed_from (at + boxes_len xs) ys)
parts_text at [] ys f = let e : at ≡ at + 0 = omega arith in ap (λ n. flat_map built_part (placed_from n ys)) e
parts_text at (x ∷ xs) ys f =
    let size : length (box_bytes x) ≡ box_len x = bytes_size x f.0 in
    let next : at + box_len x + boxes_len xs ≡ at + boxes_len (x ∷ xs) =
    omega (arith, size, length-append (box_bytes x) (flat_map box_bytes xs)) in
    let part : List ℕ = built_part (record { at = at; box = x }) in
    let front : List ℕ = flat_map built_part (placed_from (at + box_len x) xs) in
    ap (λ (r : List ℕ). part ++ r)
    (parts_text (at + box_len x) xs ys f.1 ∙ ap (λ n. front ++ flat_map built_part (placed_from n ys)) next)
    ∙ sym (append_assoc part front (flat_map built_part (placed_from (at + boxes_len (x ∷ xs)) ys)))

-- the store's box gives nothing, and those behind it stand as many places later as it has bytes
pub text_at : BoxesTextIsTold
text_at base xs ys bytes h =
    let new : Box = c2pa_box bytes in
    let next : 0 + boxes_len xs + box_len new ≡ boxes_len xs + (c2pa_frame_len + length bytes) =
    omega (arith, frame_len bytes) in
    parts_text 0 xs (new ∷ ys) (front_boxes xs ys h.forms)
    ∙ ap (λ n. flat_map built_part (placed_from 0 xs) ++ flat_map built_part (placed_from n ys)) next

-- ---- behind a last `mfra`

-- a last `mfra` gives nothing
last_text : (at : ℕ) (bs : List Box) → flat_map built_part (placed_from at (last_mfra bs)) ≡ []
last_text at [] = refl
last_text at (b ∷ []) = go (is_mfra b) refl
  where
    out : (x y z : Bool) → z ≡ true → (x || (y || z)) ≡ true
    out true y z e = refl
    out false true z e = refl
    out false false z e = e

    go : (t : Bool) → is_mfra b ≡ t → flat_map built_part (placed_from at (cond t (b ∷ []) [])) ≡ []
    go true e =
        let left : is_left_out b ≡ true = out _ (bytes_eq b.kind ftyp_kind) (is_mfra b) e in
        ap (λ (t : Bool). cond t [] (to_be_bytes w64 at ++ box_bytes b) ++ []) left
    go false e = refl
last_text at (b ∷ c ∷ cs) = last_text at (c ∷ cs)

-- before a last `mfra` the text is that of the root boxes
pub text_before_mfra : (base : List ℕ) (roots : List Box) (len : ℕ) → HasRoots base roots
    → boxes_text len (before_mfra roots) (last_mfra roots) ≡ built_text roots
text_before_mfra base roots len h =
    let xs : List Box = before_mfra roots in
    let ys : List Box = last_mfra roots in
    let front : List ℕ = flat_map built_part (placed_from 0 xs) in
    let parts : xs ++ ys ≡ roots = parts_are roots in
    let forms : AreBoxForms (xs ++ ys) = subst AreBoxForms (sym parts) h.forms in
    ap (λ (r : List ℕ). front ++ r) (last_text (boxes_len xs + len) roots ∙ sym (last_text (0 + boxes_len xs) roots))
    ∙ sym (parts_text 0 xs ys (front_boxes xs ys forms)) ∙ ap built_text parts
