-- The place right behind the first root box is a split.
use Rattle.std.proofs.Common.{◌≡◌, ℕ, ◌<◌, Bool, true, false, cond, List, [], ◌∷◌, ◌++◌, length, take, drop, Option, Some, None, refl, sym, ap, ◌∙◌, subst, arith, bytes_eq}
use Rattle.std.proofs.lemmas.List.{take-append-drop}
use Rattle.std.specs.Int.{w64, to_be_bytes}
use Rattle.c2_spec.specs.Bmff.Boxes.{Box, HasRoots, begins_bmff, box_bytes, ftyp_kind, is_to_end, most_roots}
use Rattle.c2_spec.specs.Bmff.Writing.{is_left_out}
use Rattle.c2_new_file_spec.specs.Films.{AreOthers}
use Rattle.c2_new_front_spec.specs.InFront.{open_first, others_text}
use Rattle.c2_new_content_spec.specs.Splits.{AreClosed, boxes_text}
use Rattle.c2_new_front_spec.specs.Splits.{FrontIsSplit}
use Rattle.c2_lemmas.proofs.Bools.{or_middle}
use Rattle.c2_new_front_spec.proofs.InFront.{first_type}

-- ---- the first root box

-- a file has one
first_some : (base : List ℕ) (roots : List Box) → HasRoots base roots → 0 < length (take 1 roots)
first_some base [] h = absurd (let bad = sym h.begins ∙ ap begins_bmff h.bytes in cc (bad))
first_some base (b ∷ bs) h = omega arith

-- the first root box is closed, where it isn't open
first_closed : (roots : List Box) → open_first roots ≡ None → AreClosed (take 1 roots)
first_closed [] h = tt
first_closed (b ∷ bs) h = (go (is_to_end b.form) h, tt)
  where
    go : (t : Bool) → cond {A = Option ℕ} t (Some 0) None ≡ None → t ≡ false
    go true e = absurd (cc (e))
    go false e = refl

-- ---- what is bound

-- behind the file type box the text is that of the other root boxes
pub text_behind_first : (base : List ℕ) (roots : List Box) (len : ℕ) → HasRoots base roots
    → boxes_text len (take 1 roots) (drop 1 roots) ≡ others_text len roots
text_behind_first base [] len h = refl
text_behind_first base (b ∷ bs) len h =
    let out : is_left_out b ≡ true = or_middle _ (bytes_eq b.kind ftyp_kind) _ (first_type base b bs h) in
    ap (λ (t : Bool). (cond t [] (to_be_bytes w64 0 ++ box_bytes b) ++ []) ++ others_text len (b ∷ bs)) out

-- ---- the place

-- the place behind the first root box splits the file
pub front_split : FrontIsSplit
front_split base roots film has others =
    let parts = take-append-drop 1 roots in
    record {
      split = (film, subst (HasRoots base) (sym parts) has, first_some base roots has);
      free = subst AreOthers (sym parts) others;
      start = refl;
      room =
          λ closed few. (first_closed roots closed, subst (λ (bs : List Box). length bs < most_roots) (sym parts) few);
      text = λ len. text_behind_first base roots len has;
    }
