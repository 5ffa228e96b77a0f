-- What can be put in at a place that was found.
use Rattle.std.proofs.Common.{◌≡◌, ℕ, ◌<◌, ◌≤◌, Bool, true, false, cond, arith, List, [], ◌∷◌, length, Option, Some, None, option_map, refl, sym, ap, ◌∙◌}
use Rattle.std.specs.Prelude.{Ok, Err, take, ◌+◌, ◌-◌}
use Rattle.std.specs.Option.{option_to_list}
use Rattle.std.proofs.lemmas.Bool.{le-leb, lt-leb}
use Rattle.c2_base.specs.declared.limits.TheConstants.{MAX_ROOT_BOXES}
use Rattle.c2_base.specs.declared.media.MediaError.{MediaError}
use Rattle.c2_base.specs.declared.media.MediaError.TheVariants as media
use Rattle.c2_spec.specs.Bmff.Paths.{placed_from}
use Rattle.c2_spec.specs.Bmff.Writing.{less, mfra_kind, open_end, place_or}
use Rattle.c2_spec.specs.Bmff.Writing as bmff
use Rattle.c2_spec.specs.declared.reason.Reason.TheVariants.{TooManyBoxes}
use Rattle.std.specs.Str.{bytes_eq}
use Rattle.c2_bmff_boxes.specs.Places.{place_behind, place_less}
use Rattle.c2_bmff_boxes.specs.Roots.{AreRootsOf, skipped_len}
use Rattle.c2_bmff_rows.proofs.Lists.{length-rows}
use Rattle.c2_bmff_rows.specs.declared.row.RootBox.{RootBox}
use Rattle.c2_new_file_spec.specs.Places.{IsPlace, Place, in_boxes, in_segments}
use Rattle.c2_build_refusals.specs.Refusals.{box_tests, first_refusal, place_tests, refuse_if}
use Rattle.c2_build_in_place.specs.Numbers.{IsFitted}
use Rattle.c2_build_refusals.specs.InsertPoints.{IsInsertPoint}
use Rattle.c2_build_refusals.specs.declared.types.Put.TheVariants as Put
use Rattle.c2_build_refusals.specs.declared.error.BuildError.TheVariants.{MediaRefused, OpenBox}
use Rattle.c2_build_refusals.specs.declared.types.InsertPoint.{InsertPoint}

-- where a box goes, by whether the last root box is open
box_place : (o : Option ℕ) (at place : ℕ) → Ok at ≡ place_or o place → (o ≡ None) × (at ≡ place)
box_place None at place e = let same : at ≡ place = cc (e) in (refl, same)
box_place (Some n) at place e = absurd (cc (e))

-- a box is put in where the last root box isn't open
pub box_fitted : (rows : List RootBox) (start : ℕ) (base : List ℕ) (p : Place) → IsPlace base p
    → IsInsertPoint (InsertPoint.Boxes rows) p
    → ((file : List ℕ) (r : AreRootsOf file rows) → Ok start ≡ bmff.place_without None r.boxes)
    → IsFitted start Put.Box p
box_fitted rows start base (in_segments segments number) at h place = absurd h
box_fitted rows start base (in_boxes roots) at h place =
    let found =
    box_place (open_end (placed_from 0 roots)) start (bmff.insert_place roots)
    (place base (record { boxes = roots; has_roots = at.1; are = h })) in
    record {
      passed =
          ap (λ (o : Option ℕ). first_refusal (option_to_list (option_map (λ (n : ℕ). refuse_if true (OpenBox n)) o)))
          found.0;
      start = found.1;
      put = tt;
    }

-- which one is open
open_place : (o : Option ℕ) (at place : ℕ) → Err (media.BadBox at) ≡ place_or o place → o ≡ Some at
open_place None at place e = absurd (cc (e))
open_place (Some n) at place e = let same : at ≡ n = cc (e) in ap Some (sym same)

-- nothing can be put in where it is open
pub box_refused : (rows : List RootBox) (broken : ℕ) (base : List ℕ) (p : Place) → IsPlace base p
    → IsInsertPoint (InsertPoint.Boxes rows) p
    → ((file : List ℕ) (r : AreRootsOf file rows) → Err (media.BadBox broken) ≡ bmff.place_without None r.boxes)
    → first_refusal (place_tests p) ≡ Some (OpenBox broken)
box_refused rows broken base (in_segments segments number) at h place = absurd h
box_refused rows broken base (in_boxes roots) at h place =
    ap (λ (o : Option ℕ). first_refusal (option_to_list (option_map (λ (n : ℕ). refuse_if true (OpenBox n)) o)))
    (open_place (open_end (placed_from 0 roots)) broken (bmff.insert_place roots) (place base (record { boxes = roots; has_roots = at.1; are = h })))

-- no other error comes of it
refused_open : (out : ℕ) (rows : List RootBox) (e : MediaError) → Err e ≡ place_behind out rows
    → ((at : ℕ) → e ≡ media.BadBox at → ⊥) → ⊥
refused_open out [] e h other = cc (h)
refused_open out (r ∷ []) e h other = by (bytes_eq r.kind mfra_kind) r.to_end h
  where
    by : (last whole : Bool)
        → Err e ≡ cond last (Ok (r.start - out)) (cond whole (Err (media.BadBox r.start)) (Ok (r.start + r.length - out)))
        → ⊥
    by true whole k = cc (k)
    by false true k = let same : e ≡ media.BadBox r.start = cc (k) in other r.start same
    by false false k = cc (k)
refused_open out (r ∷ s ∷ rs) e h other = refused_open out (s ∷ rs) e h other

-- no other error than an open box comes where the row of an index is left out, if one is
pub refused_less : (skip : Option ℕ) (rows : List RootBox) (e : MediaError) → Err e ≡ place_less skip rows
    → ((at : ℕ) → e ≡ media.BadBox at → ⊥) → ⊥
refused_less skip rows e h other =
    refused_open (skipped_len skip (take (length rows - 1) rows)) (less skip rows) e h other

-- ---- how many root boxes

-- no test on a JPEG file's place fails for its boxes
pub no_boxes : (start : ℕ) (number : Option ℕ) (p : Place) → IsInsertPoint (InsertPoint.Segments start number) p
    → first_refusal (box_tests p) ≡ None
no_boxes start number (in_segments segments en) h = refl
no_boxes start number (in_boxes roots) h = absurd h

-- a file has as many as it may have
pub boxes_refused : (rows : List RootBox) (p : Place) → IsInsertPoint (InsertPoint.Boxes rows) p
    → MAX_ROOT_BOXES ≤ length rows → first_refusal (box_tests p) ≡ Some (MediaRefused TooManyBoxes MAX_ROOT_BOXES)
boxes_refused rows (in_segments segments number) h many = absurd h
boxes_refused rows (in_boxes roots) h many =
    let count : length rows ≡ length roots = ap length h ∙ length-rows roots in
    ap (λ (b : Bool). first_refusal (refuse_if b (MediaRefused TooManyBoxes MAX_ROOT_BOXES) ∷ []))
    (le-leb MAX_ROOT_BOXES (length roots) (omega (arith, count, many)))

-- a file with fewer root boxes than it may have passes their test
pub boxes_pass : (rows : List RootBox) (p : Place) → IsInsertPoint (InsertPoint.Boxes rows) p
    → length rows < MAX_ROOT_BOXES → first_refusal (box_tests p) ≡ None
boxes_pass rows (in_segments segments number) h few = absurd h
boxes_pass rows (in_boxes roots) h few =
    let count : length rows ≡ length roots = ap length h ∙ length-rows roots in
    ap (λ (b : Bool). first_refusal (refuse_if b (MediaRefused TooManyBoxes MAX_ROOT_BOXES) ∷ []))
    (lt-leb MAX_ROOT_BOXES (length roots) (omega (arith, count, few)))
