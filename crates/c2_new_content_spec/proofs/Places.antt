-- The place of a file is a split.
use Rattle.std.proofs.Common.{◌≡◌, ℕ, ◌<◌, Bool, false, cond, List, [], ◌∷◌, ◌++◌, length, Option, Some, None, refl, sym, ap, ◌∙◌, subst, arith, bytes_eq}
use Rattle.std.specs.List.{AllByRecursion}
use Rattle.c2_spec.specs.Bmff.Boxes.{Box, HasRoots, IsSizedBox, begins_bmff, most_roots}
use Rattle.c2_spec.specs.Bmff.Writing.{before_mfra, is_mfra, last_mfra, mfra_kind}
use Rattle.c2_spec.specs.Jpeg.Places.{IsOfSegments}
use Rattle.c2_spec.specs.Jpeg.Segments.{Segment}
use Rattle.c2_spec.specs.Jpeg.Store.{NoneBegins}
use Rattle.c2_spec.specs.Jpeg.Writing.{IsNumberOf, is_taken, leading_app0}
use Rattle.c2_new_file_spec.proofs.Put.{app0_split, taken_back}
use Rattle.c2_new_file_spec.specs.Films.{AreOthers}
use Rattle.c2_new_file_spec.specs.Places.{in_boxes, in_segments}
use Rattle.c2_new_content_spec.specs.Instances.{PlaceIsSplit, behind_app0}
use Rattle.c2_new_content_spec.specs.Splits.{AreClosed, IsNumbered}
use Rattle.c2_new_content_spec.proofs.Texts.{text_before_mfra}
use Rattle.c2_bmff_insert_spec.proofs.Placing.{before_sized, first_is, parts_are}

-- ---- segments

-- packets before some of the segments can have the number that is free among all
numbered : (segments xs ys : List Segment) (number : Option ℕ) → xs ++ ys ≡ segments → IsNumberOf segments number
    → IsNumbered xs ys number
numbered segments xs ys None e h = subst (λ (ss : List Segment). IsNumberOf ss None) (sym e) h
numbered segments xs ys (Some en) e h =
    record
    { most = h.most; unused = taken_back en xs ys (subst (λ (ss : List Segment). is_taken ss en ≡ false) (sym e) h.free) }

-- ---- root boxes

-- a first box that isn't `mfra` comes before a last one
some_before : (b : Box) (bs : List Box) → is_mfra b ≡ false → 0 < length (before_mfra (b ∷ bs))
some_before b [] e = subst (λ (t : Bool). 0 < length (cond t [] (b ∷ []))) (sym e) (omega arith)
some_before b (c ∷ cs) e = omega arith

-- some root box comes before a last `mfra`
before_some : (base : List ℕ) (roots : List Box) → HasRoots base roots → 0 < length (before_mfra roots)
before_some base [] h = absurd (let bad = sym h.begins ∙ ap begins_bmff h.bytes in cc (bad))
before_some base (b ∷ bs) h = some_before b bs (ap (λ (k : List ℕ). bytes_eq k mfra_kind) (first_is base b bs h))

-- boxes that say their sizes are closed
sized_closed : (bs : List Box) → AllByRecursion IsSizedBox bs → AreClosed bs
sized_closed [] h = tt
sized_closed (b ∷ bs) h = (h.0.sized, sized_closed bs h.1)

-- ---- the place

-- the place splits the file
pub place_split : PlaceIsSplit
place_split base (in_segments segments number) h =
    let parts : leading_app0 segments ++ behind_app0 segments ≡ segments = app0_split segments in
    record {
      split =
          (subst (IsOfSegments base) (sym parts) h.is.1, numbered segments (leading_app0 segments) (behind_app0 segments) number parts h.is.2);
      free = subst NoneBegins (sym parts) h.free;
      start = refl;
      room = λ r. r;
      piece = λ store. refl;
      text = λ len. refl;
    }
place_split base (in_boxes roots) h =
    let parts : before_mfra roots ++ last_mfra roots ≡ roots = parts_are roots in
    record {
      split = (h.is.0, subst (HasRoots base) (sym parts) h.is.1, before_some base roots h.is.1);
      free = subst AreOthers (sym parts) h.free;
      start = refl;
      room =
          λ r. (sized_closed (before_mfra roots) (before_sized 0 roots h.is.1.forms r.0), subst (λ (bs : List Box). length bs < most_roots) (sym parts) r.1);
      piece = λ store. refl;
      text = λ len. text_before_mfra base roots len h.is.1;
    }
