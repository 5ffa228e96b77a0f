-- A file is one list of segments, and where these end no test of a marker or a length fails.
use Rattle.std.proofs.Common.{◌≡◌, ℕ, ⊎_elim, true, false, List, [], ◌∷◌, ◌++◌, Option, Some, None, refl, sym, ap, ◌∙◌, subst, append_assoc, arith}
use Rattle.std.proofs.lemmas.Bool.{cases_lt}
use Rattle.std.proofs.lemmas.List.{append-nil, append_cancel_left}
use Rattle.std.specs.List.{flat_map}
use Rattle.c2_base.specs.declared.media.MediaError.{MediaError}
use Rattle.c2_spec.specs.Jpeg.Segments.{Segment, IsSegment, EndsSegments, HasSegments, MarkerFault, place_after, segment_bytes, start_of_image}
use Rattle.c2_spec.specs.Jpeg.Places.{IsOfSegments, SegmentsFault, too_large, not_media, at_marker, IsInsertPlace, HasNumber}
use Rattle.c2_spec.specs.Jpeg.Writing.{insert_place, IsNumberOf}
use Rattle.c2_jpegseg_segments.proofs.Reading.{ends, fails, finds, read, read-segment, read-end, read-fault}
use Rattle.c2_jpegseg_segments.proofs.Starts.{begins_media}
use Rattle.c2_jpegseg_segments.proofs.Unique.{Compared, compare, first_on, second_on}

-- what follows the start of the image
inner : (file : List ℕ) (xs ys : List Segment) (r s : List ℕ) → HasSegments file xs r → HasSegments file ys s
    → flat_map segment_bytes xs ++ r ≡ flat_map segment_bytes ys ++ s
inner file xs ys r s bx by =
    append_cancel_left start_of_image (flat_map segment_bytes xs ++ r) (flat_map segment_bytes ys ++ s)
    (sym (bx.bytes ∙ append_assoc start_of_image (flat_map segment_bytes xs) r) ∙ by.bytes ∙ append_assoc start_of_image (flat_map segment_bytes ys) s)

-- the end of the segments is no segment
end_not_segment : (z : Segment) (r more : List ℕ) → IsSegment z → EndsSegments r → r ≡ segment_bytes z ++ more → ⊥
end_not_segment z r more legal last shape = let h : ends ≡ finds z more = sym (read-end 0 r last) ∙ ap (read 0) shape ∙ read-segment 0 z more legal in cc (h)

-- nor has it a fault
end_not_fault : (p : ℕ) (r : List ℕ) (e : MediaError) → EndsSegments r → MarkerFault p r e → ⊥
end_not_fault p r e last a = let h : fails e ≡ ends = sym (read-fault p r e a) ∙ read-end p r last in cc (h)

-- a segment has no fault
segment_not_fault : (p : ℕ) (z : Segment) (r more : List ℕ) (e : MediaError) → IsSegment z → r ≡ segment_bytes z ++ more
    → MarkerFault p r e → ⊥
segment_not_fault p z r more e legal shape a = let h : fails e ≡ finds z more = sym (read-fault p r e a) ∙ ap (read p) shape ∙ read-segment p z more legal in cc (h)

-- the segments of a file that end are one list
pub one_list : (file : List ℕ) (xs ys : List Segment) (r s : List ℕ) → HasSegments file xs r → HasSegments file ys s
    → EndsSegments r → EndsSegments s → (xs ≡ ys) × (r ≡ s)
one_list file xs ys r s bx by er es = go (compare xs ys r s bx.each by.each (inner file xs ys r s bx by))
  where
    go : Compared xs ys r s → (xs ≡ ys) × (r ≡ s)
    go (first_on [] same shape legal) = (sym (same ∙ append-nil xs), shape)
    go (first_on (z ∷ zs) same shape legal) =
        absurd
        (end_not_segment z r (flat_map segment_bytes zs ++ s) legal.0 er (shape ∙ append_assoc (segment_bytes z) (flat_map segment_bytes zs) s))
    go (second_on z zs same shape legal) =
        absurd
        (end_not_segment z s (flat_map segment_bytes zs ++ r) legal.0 es (shape ∙ append_assoc (segment_bytes z) (flat_map segment_bytes zs) r))

-- where the segments end, no marker or length before has a fault
ends_not_fails : (file : List ℕ) (xs ys : List Segment) (r s : List ℕ) (e : MediaError) → HasSegments file xs r
    → HasSegments file ys s → EndsSegments r → MarkerFault (place_after ys) s e → ⊥
ends_not_fails file xs ys r s e bx by er fault = go (compare xs ys r s bx.each by.each (inner file xs ys r s bx by))
  where
    go : Compared xs ys r s → ⊥
    go (first_on [] same shape legal) = end_not_fault (place_after ys) s e (subst EndsSegments shape er) fault
    go (first_on (z ∷ zs) same shape legal) =
        end_not_segment z r (flat_map segment_bytes zs ++ s) legal.0 er
        (shape ∙ append_assoc (segment_bytes z) (flat_map segment_bytes zs) s)
    go (second_on z zs same shape legal) =
        segment_not_fault (place_after ys) z s (flat_map segment_bytes zs ++ r) e legal.0
        (shape ∙ append_assoc (segment_bytes z) (flat_map segment_bytes zs) r) fault

-- a file of segments has no first test that fails
pub no_segments_fault : (file : List ℕ) (segments : List Segment) (e : MediaError) → IsOfSegments file segments
    → SegmentsFault file e → ⊥
no_segments_fault file segments _ h (too_large a) = absurd (omega (arith, h.fits))
no_segments_fault file segments _ h (not_media _ a) = a (begins_media file segments h.rest h.begins)
no_segments_fault file segments e h (at_marker before rest _ _ begins fault) =
    ends_not_fails file segments before h.rest rest e h.begins begins h.ends fault

-- two markers that fail are one
one_marker_fault : (file : List ℕ) (xs ys : List Segment) (r s : List ℕ) (e f : MediaError) → HasSegments file xs r
    → HasSegments file ys s → MarkerFault (place_after xs) r e → MarkerFault (place_after ys) s f → e ≡ f
one_marker_fault file xs ys r s e f bx by first second = go (compare xs ys r s bx.each by.each (inner file xs ys r s bx by))
  where
    go : Compared xs ys r s → e ≡ f
    go (first_on [] same shape legal) =
        let list : ys ≡ xs = same ∙ append-nil xs in
        let h : fails e ≡ fails f =
        sym (read-fault (place_after xs) r e first) ∙ ap (read (place_after xs)) shape
        ∙ ap (λ (zs : List Segment). read (place_after zs) s) (sym list) ∙ read-fault (place_after ys) s f second in
        cc (h)
    go (first_on (z ∷ zs) same shape legal) =
        absurd
        (segment_not_fault (place_after xs) z r (flat_map segment_bytes zs ++ s) e legal.0 (shape ∙ append_assoc (segment_bytes z) (flat_map segment_bytes zs) s) first)
    go (second_on z zs same shape legal) =
        absurd
        (segment_not_fault (place_after ys) z s (flat_map segment_bytes zs ++ r) f legal.0 (shape ∙ append_assoc (segment_bytes z) (flat_map segment_bytes zs) r) second)

-- so are two first tests of a file that fail
pub one_segments_fault : (file : List ℕ) (e f : MediaError) → SegmentsFault file e → SegmentsFault file f → e ≡ f
one_segments_fault file _ _ (too_large a) (too_large b) = refl
one_segments_fault file _ _ (too_large a) (not_media small b) = absurd (omega (arith, a, small))
one_segments_fault file _ f (too_large a) (at_marker ys s _ small by second) = absurd (omega (arith, a, small))
one_segments_fault file _ _ (not_media small a) (too_large b) = absurd (omega (arith, b, small))
one_segments_fault file _ _ (not_media small a) (not_media other b) = refl
one_segments_fault file _ f (not_media small a) (at_marker ys s _ other by second) =
    absurd (a (begins_media file ys s by))
one_segments_fault file e _ (at_marker xs r _ small bx first) (too_large b) = absurd (omega (arith, b, small))
one_segments_fault file e _ (at_marker xs r _ small bx first) (not_media other b) =
    absurd (b (begins_media file xs r bx))
one_segments_fault file e f (at_marker xs r _ small bx first) (at_marker ys s _ other by second) =
    one_marker_fault file xs ys r s e f bx by first second

-- a file has one place for packets
pub one_place : (file : List ℕ) (p q : ℕ) → IsInsertPlace file p → IsInsertPlace file q → p ≡ q
one_place file p q a b =
    a.place_is
    ∙ ap insert_place
    (one_list file a.segments b.segments a.is_of.rest b.is_of.rest a.is_of.begins b.is_of.begins a.is_of.ends b.is_of.ends).0
    ∙ sym b.place_is

-- segments have one free number
one_of_segments : (ss : List Segment) (m n : Option ℕ) → IsNumberOf ss m → IsNumberOf ss n → m ≡ n
one_of_segments ss None None a b = refl
one_of_segments ss None (Some n) a b = let h : true ≡ false = sym (a n b.least b.most) ∙ b.free in absurd (cc (h))
one_of_segments ss (Some m) None a b = let h : true ≡ false = sym (b m a.least a.most) ∙ a.free in absurd (cc (h))
one_of_segments ss (Some m) (Some n) a b = ⊎_elim
    (λ less. let h : true ≡ false = sym (b.first m a.least less) ∙ a.free in absurd (cc (h)))
    (λ le. ⊎_elim (λ less. let h : true ≡ false = sym (a.first n b.least less) ∙ b.free in absurd (cc (h))) (λ ge. let e : m ≡ n = omega (arith, le, ge) in ap (λ k. Some k) e) (cases_lt n m))
    (cases_lt m n)

-- so has a file
pub one_number : (file : List ℕ) (m n : Option ℕ) → HasNumber file m → HasNumber file n → m ≡ n
one_number file m n a b =
    let same =
    (one_list file a.segments b.segments a.is_of.rest b.is_of.rest a.is_of.begins b.is_of.begins a.is_of.ends b.is_of.ends).0 in
    one_of_segments b.segments m n (subst (λ (ss : List Segment). IsNumberOf ss m) same a.number_is) b.number_is
