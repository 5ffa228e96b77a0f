-- A file has one place, and one file is left of a media file.
use Rattle.c2_jpegseg_segments.proofs.TheLaws.{place_and_number_are_one_number, segments_end_or_fail_one}
use Rattle.std.proofs.Common.{◌≡◌, ℕ, Bool, true, false, List, sym, ap, ◌∙◌}
use Rattle.std.specs.Bool.{MatchBool}
use Rattle.c2_spec.specs.Container.{is_bmff}
use Rattle.c2_spec.specs.Jpeg.Segments.{Segment}
use Rattle.c2_spec.specs.PutIn.{taken_out}
use Rattle.c2_bmff_insert_spec.proofs.TheLaws.{a_base_has_no_store_once}
use Rattle.c2_new_file_spec.specs.Bases.{IsLeftOfBoxes}
use Rattle.c2_new_file_spec.specs.Laws.{OneLeft, OnePlace}
use Rattle.c2_new_file_spec.specs.Places.{in_boxes, in_segments}
use Rattle.c2_spec.proofs.BmffOneList.{roots_once}

-- no file has both containers
pub not_both : {P : Type 0} (base : List ℕ) → is_bmff base ≡ false → is_bmff base ≡ true → P
not_both {P} base one other = absurd (let bad : false ≡ true = sym one ∙ other in cc (bad))

-- a file has one place
pub one_place : OnePlace
one_place base (in_segments xs m) (in_segments ys n) h k =
    let same : xs ≡ ys = segments_end_or_fail_one base xs ys h.1 k.1 in
    let free : m ≡ n =
    place_and_number_are_one_number base m n (record { segments = xs; is_of = h.1; number_is = h.2 })
    (record { segments = ys; is_of = k.1; number_is = k.2 }) in
    ap (λ (ss : List Segment). in_segments ss m) same ∙ ap (in_segments ys) free
one_place base (in_segments xs m) (in_boxes bs) h k = not_both base h.0 k.0
one_place base (in_boxes bs) (in_segments xs m) h k = not_both base k.0 h.0
one_place base (in_boxes bs) (in_boxes cs) h k = ap in_boxes (roots_once base bs cs h.1 k.1)

-- one file is left
pub one_left : OneLeft
one_left media start len a b h k = go (is_bmff media) h k
  where
    go : (t : Bool) → MatchBool t (IsLeftOfBoxes media a) (a ≡ taken_out start len media)
        → MatchBool t (IsLeftOfBoxes media b) (b ≡ taken_out start len media) → a ≡ b
    go true x y = (a_base_has_no_store_once media a b x.0 y.0 x.1 y.1).0
    go false x y = x ∙ sym y
