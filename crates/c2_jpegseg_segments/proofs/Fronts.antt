-- The APP0 segments at the front, as segments come, and the place behind them.
use Rattle.std.specs.Prelude.{◌==◌}
use Rattle.std.proofs.Common.{◌≡◌, ℕ, ◌+◌, ◌-◌, ◌<◌, ◌≤◌, Bool, ◌&&◌, true, false, cond, List, [], ◌∷◌, ◌++◌, length, refl, sym, ap, ◌∙◌, arith, length-append, inl, inr, take, drop}
use Rattle.std.proofs.lemmas.List.{append-nil, length-take, length-drop}
use Rattle.std.proofs.lemmas.List.Concat.{flat_map-append}
use Rattle.std.specs.List.{flat_map}
use Rattle.c2_base.specs.declared.limits.TheConstants.{FILE_LEN_LIMIT}
use Rattle.c2_base.specs.declared.values.Range.{Range}
use Rattle.c2_spec.specs.declared.markers.TheConstants.{APP0}
use Rattle.c2_spec.specs.Jpeg.Segments.{Segment, segment_bytes, place_after, start_of_image, HasSegments}
use Rattle.c2_spec.specs.Jpeg.Store.{HasJpegStore}
use Rattle.c2_spec.specs.Jpeg.Writing.{leading_app0, insert_place}
use Rattle.c2_spec.specs.Jpeg.Places.{CanSkip, IsOfSegments, IsInsertPlace}
use Rattle.c2_spec.specs.PutIn.{taken_out}
use Rattle.c2_jpegseg_segments.specs.Fronts.{are_app0, IsFront, HasFront}
use Rattle.c2_jpegseg_segments.specs.Passing.{kept}
use Rattle.c2_jpegseg_segments.specs.Segments.{IsExtent, segment_of}
use Rattle.c2_jpegseg_segments.specs.declared.marker.Extent.{Extent}
use Rattle.c2_jpegseg_segments.specs.declared.front.Front.{Front}
use Rattle.c2_jpegseg_segments.proofs.Kept.{kept_is, one_more}
use Rattle.c2_jpegseg_segments.proofs.SegmentLists.{place-append}
use Rattle.c2_lemmas.proofs.Bools.{both_true}

-- behind APP0 segments alone the front goes on
front_all : (ss ys : List Segment) → are_app0 ss ≡ true → leading_app0 (ss ++ ys) ≡ ss ++ leading_app0 ys
front_all [] ys h = refl
front_all (x ∷ ss) ys h =
    let p = both_true (x.marker == APP0) (are_app0 ss) h in
    ap (λ b. cond b (x ∷ leading_app0 (ss ++ ys)) []) p.0 ∙ ap (λ (zs : List Segment). x ∷ zs) (front_all ss ys p.1)

-- all of them are the front
front_whole : (ss : List Segment) → are_app0 ss ≡ true → leading_app0 ss ≡ ss
front_whole ss h = ap leading_app0 (sym (append-nil ss)) ∙ front_all ss [] h ∙ append-nil ss

-- behind another segment it doesn't
front_closed : (ss ys : List Segment) → are_app0 ss ≡ false → leading_app0 (ss ++ ys) ≡ leading_app0 ss
front_closed [] ys h = absurd (cc (h))
front_closed (x ∷ ss) ys h = step (x.marker == APP0) (front_closed ss ys) h
  where
    step : (b : Bool) → (are_app0 ss ≡ false → leading_app0 (ss ++ ys) ≡ leading_app0 ss) → (b && are_app0 ss) ≡ false
        → cond b (x ∷ leading_app0 (ss ++ ys)) [] ≡ cond b (x ∷ leading_app0 ss) []
    step true more e = ap (λ (zs : List Segment). x ∷ zs) (more e)
    step false more e = refl

-- whether all are APP0 segments, with one more
are_push : (ss : List Segment) (s : Segment) → are_app0 (ss ++ s ∷ []) ≡ (are_app0 ss && (s.marker == APP0))
are_push [] s = step (s.marker == APP0)
  where
    step : (b : Bool) → (b && true) ≡ b
    step true = refl
    step false = refl
are_push (x ∷ ss) s = step (x.marker == APP0) (are_push ss s)
  where
    step : (b : Bool) → are_app0 (ss ++ s ∷ []) ≡ (are_app0 ss && (s.marker == APP0))
        → (b && are_app0 (ss ++ s ∷ [])) ≡ ((b && are_app0 ss) && (s.marker == APP0))
    step true e = e
    step false e = refl

-- how many bytes the segment of an extent has
pub extent_len : (file : List ℕ) (at : ℕ) (e : Extent) (x : IsExtent file at e)
    → length (segment_bytes (segment_of x.fill file e)) ≡ e.end - at
extent_len file at e x =
    omega
    (arith, ap length x.bytes, length-append (segment_bytes (segment_of x.fill file e)) (drop e.end file), length-drop at file, length-drop e.end file, x.later, x.inside)

-- one more APP0 segment behind such segments alone
pub front_goes_on : (front : Front) (len : ℕ) (ss : List Segment) (s : Segment)
    → (front.only && (s.marker == APP0)) ≡ true → length (segment_bytes s) ≡ len → IsFront front ss
    → IsFront (record { end = front.end + len; only = true }) (ss ++ s ∷ [])
front_goes_on front len ss s h size f =
    let p = both_true front.only (s.marker == APP0) h in
    let all : are_app0 ss ≡ true = sym f.only ∙ p.0 in
    let old : front.end ≡ place_after ss = f.end ∙ ap place_after (front_whole ss all) in
    let one : leading_app0 (s ∷ []) ≡ s ∷ [] = ap (λ b. cond b (s ∷ []) []) p.1 in
    let new : insert_place (ss ++ s ∷ []) ≡ place_after (ss ++ s ∷ []) =
    ap place_after (front_all ss (s ∷ []) all ∙ ap (λ (zs : List Segment). ss ++ zs) one) in
    let sum : place_after (ss ++ s ∷ []) ≡ place_after ss + length (flat_map segment_bytes (s ∷ [])) =
    place-append ss (s ∷ []) in
    let bytes : length (flat_map segment_bytes (s ∷ [])) ≡ length (segment_bytes s) =
    ap length (append-nil (segment_bytes s)) in
    record {
      end = omega (arith, old, new, sum, bytes, size);
      only = sym (are_push ss s ∙ ap (λ b. b && (s.marker == APP0)) all ∙ p.1);
    }

-- another segment, or one behind another
pub front_ends : (front : Front) (ss : List Segment) (s : Segment) → (front.only && (s.marker == APP0)) ≡ false
    → IsFront front ss → IsFront (record { end = front.end; only = false }) (ss ++ s ∷ [])
front_ends front ss s h f = record {
  end = f.end ∙ ap place_after (sym (same (are_app0 ss) refl));
  only = sym (are_push ss s ∙ ap (λ b. b && (s.marker == APP0)) (sym f.only) ∙ h);
}
  where
    same : (b : Bool) → are_app0 ss ≡ b → leading_app0 (ss ++ s ∷ []) ≡ leading_app0 ss
    same false e = front_closed ss (s ∷ []) e
    same true e =
        let other : (s.marker == APP0) ≡ false = ap (λ b. b && (s.marker == APP0)) (sym (f.only ∙ e)) ∙ h in
        front_all ss (s ∷ []) e ∙ ap (λ b. ss ++ cond b (s ∷ []) []) other ∙ append-nil ss ∙ sym (front_whole ss e)

-- the front has no more bytes than all segments
front_short : (ss : List Segment)
    → length (flat_map segment_bytes (leading_app0 ss)) ≤ length (flat_map segment_bytes ss)
front_short [] = omega arith
front_short (s ∷ ss) = step (s.marker == APP0) (front_short ss)
  where
    step : (b : Bool) → length (flat_map segment_bytes (leading_app0 ss)) ≤ length (flat_map segment_bytes ss)
        → length (flat_map segment_bytes (cond b (s ∷ leading_app0 ss) [])) ≤ length (flat_map segment_bytes (s ∷ ss))
    step true more = omega (arith, one_more s (leading_app0 ss), one_more s ss, more)
    step false more = omega arith

-- so it lies in the file
segments_inside : (file : List ℕ) (ss : List Segment) (rest : List ℕ) → HasSegments file ss rest
    → place_after ss ≤ length file
segments_inside file ss rest h =
    omega
    (arith, ap length h.bytes, length-append (start_of_image ++ flat_map segment_bytes ss) rest, length-append start_of_image (flat_map segment_bytes ss))

-- as does the range of its store
store_inside : (file : List ℕ) (start len : ℕ) (store : List ℕ) → HasJpegStore file start len store
    → start + len ≤ length file
store_inside file start len store h =
    let held = h.holds in
    let run : List Segment = held.first ∷ held.others in
    let all : flat_map segment_bytes h.segments ≡ flat_map segment_bytes held.before ++ (flat_map segment_bytes run ++ flat_map segment_bytes held.after) =
    ap (flat_map segment_bytes) held.split ∙ flat_map-append segment_bytes held.before (run ++ held.after) ∙ ap (λ (x : List ℕ). flat_map segment_bytes held.before ++ x) (flat_map-append segment_bytes run held.after) in
    omega
    (arith, held.from, held.for, ap length all, segments_inside file h.segments h.rest h.begins, length-append (flat_map segment_bytes held.before) (flat_map segment_bytes run ++ flat_map segment_bytes held.after), length-append (flat_map segment_bytes run) (flat_map segment_bytes held.after))

-- how many bytes are left without a range that may be passed over
left : (file : List ℕ) (skip : Range) → CanSkip file skip
    → length (taken_out skip.start skip.length file) ≡ length file - skip.length
left file skip can = go can
  where
    sum : length (taken_out skip.start skip.length file) ≡ length (take skip.start file) + length
        (drop (skip.start + skip.length) file)
    sum = length-append (take skip.start file) (drop (skip.start + skip.length) file)

    go : CanSkip file skip → length (taken_out skip.start skip.length file) ≡ length file - skip.length
    go (inl none) = omega (arith, none, sum, length-take skip.start file, length-drop (skip.start + skip.length) file)
    go (inr (store, h)) =
        omega
        (arith, store_inside file skip.start skip.length store h, sum, length-take skip.start file, length-drop (skip.start + skip.length) file)

-- the front of the segments that are kept ends at the place in the file without the range
pub has-place : (file : List ℕ) (skip : Range) (front : Front) (place : ℕ) → length file < FILE_LEN_LIMIT
    → HasFront file skip front → (front.end ≤ length file - skip.length → place ≡ front.end) → CanSkip file skip
    → IsInsertPlace (taken_out skip.start skip.length file) place
has-place file skip front place small h is can =
    let of_ : IsOfSegments (taken_out skip.start skip.length file) (kept skip h.passes.segments) =
    kept_is file skip h.passes.segments _ small h.passes.begins h.ends can in
    let inside : place_after (kept skip h.passes.segments) ≤ length (taken_out skip.start skip.length file) =
    segments_inside _ _ _ of_.begins in
    record {
      segments = kept skip h.passes.segments;
      is_of = of_;
      place_is =
          is (omega (arith, h.passes.state.end, front_short (kept skip h.passes.segments), inside, left file skip can))
          ∙ h.passes.state.end;
    }
