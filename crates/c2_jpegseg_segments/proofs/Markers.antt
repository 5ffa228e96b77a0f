-- Lemmas on fill bytes and markers.
use Rattle.std.proofs.Common.{◌≡◌, ◌≢◌, ℕ, zero, suc, ◌+◌, ◌-◌, ◌*◌, ◌<◌, ◌≤◌, ◌⊎◌, ⊎_elim, true, false, cond, List, [], ◌∷◌, ◌++◌, length, get_or, take, drop, replicate, refl, sym, ap, ◌∙◌, subst, append_assoc, arith, lit<}
use Rattle.std.proofs.lemmas.List.{drop_more, drop_all, replicate_more, length-take-le, take-append-drop, drop-drop, length-drop, append-nil}
use Rattle.std.proofs.lemmas.Nat.{be_bytes_2}
use Rattle.std.proofs.lemmas.Bool.{cases_lt}
use Rattle.std.specs.Int.{w16, to_be_bytes}
use Rattle.c2_base.specs.declared.media.MediaError.{MediaError}
use Rattle.c2_base.specs.declared.media.MediaError.TheVariants.{Truncated, BadSegment, BadMarker}
use Rattle.c2_spec.specs.Jpeg.Segments.{Segment, EndsSegments, MarkerFault, nothing_left, no_marker, fill_alone, bad_marker, no_length, short_length, cut_short, marker_bytes, segment_bytes, is_alone, is_segment_marker}
use Rattle.c2_jpegseg_segments.proofs.Outside.{or_outside-map}
use Rattle.c2_jpegseg_segments.specs.declared.marker.Extent.{Extent}
use Rattle.c2_jpegseg_segments.specs.declared.marker.Marker.{Marker}
use Rattle.c2_jpegseg_segments.specs.Causes.{OrJpegFault}
use Rattle.c2_jpegseg_segments.specs.Segments.{IsExtent, IsMarkerAt, IsSized, SizedFault, length_at}
use Rattle.c2_lemmas.proofs.Bools.{and_not_true}

-- one more fill byte
pub fill_more : (file : List ℕ) (at q : ℕ) → at ≤ q → q < length file → get_or file q 0 ≡ 255
    → drop at file ≡ replicate (q - at) 255 ++ drop q file
    → drop at file ≡ replicate (q + 1 - at) 255 ++ drop (q + 1) file
fill_more file at q le lt byte front =
    let count : q + 1 - at ≡ q - at + 1 = omega arith in
    let split : drop q file ≡ 255 ∷ drop (q + 1) file = drop_more file q 0 lt ∙ ap (λ b. b ∷ drop (q + 1) file) byte in
    front ∙ ap (λ (x : List ℕ). replicate (q - at) 255 ++ x) split
    ∙ sym (append_assoc (replicate (q - at) 255) (255 ∷ []) (drop (q + 1) file))
    ∙ ap (λ (x : List ℕ). x ++ drop (q + 1) file) (replicate_more (q - at) 255 ∙ ap (λ n. replicate n 255) (sym count))

-- where the first byte that isn't fill comes after the place, the rest begins with a marker
pub marker_split : (file : List ℕ) (at : ℕ) (m : Marker) → at < m.place → m.place < length file → IsMarkerAt file at m
    → drop at file ≡ marker_bytes (m.place - at - 1) m.code ++ drop (m.place + 1) file
marker_split file at m lt inside is =
    let count : m.place - at ≡ m.place - at - 1 + 1 = omega arith in
    is.fill ∙ ap (λ (x : List ℕ). replicate (m.place - at) 255 ++ x) (drop_more file m.place 0 inside)
    ∙ ap (λ c. replicate (m.place - at) 255 ++ c ∷ drop (m.place + 1) file) (sym is.code)
    ∙ sym (append_assoc (replicate (m.place - at) 255) (m.code ∷ []) (drop (m.place + 1) file))
    ∙ ap (λ n. (replicate n 255 ++ m.code ∷ []) ++ drop (m.place + 1) file) count

-- two bytes in their places
two_places : (a b : ℕ) → a < 256 → b < 256 → (i : ℕ) → get_or (a ∷ b ∷ []) i 0 < 256
two_places a b ha hb zero = ha
two_places a b ha hb (suc zero) = hb
two_places a b ha hb (suc (suc i)) = lit< tt

-- the two bytes of a length
pub two_bytes : (a b n : ℕ) → a < 256 → b < 256 → n ≡ a * 256 + b → to_be_bytes w16 n ≡ a ∷ b ∷ []
two_bytes a b n ha hb e = be_bytes_2 (a ∷ b ∷ []) n refl (two_places a b ha hb) e

-- the bytes of a segment whose marker stands alone, and of one with a length
pub spelled_alone : (s : Segment) → is_alone s.marker ≡ true → segment_bytes s ≡ marker_bytes s.fill s.marker
spelled_alone s alone =
    ap (λ b. marker_bytes s.fill s.marker ++ cond b [] (to_be_bytes w16 (length s.payload + 2) ++ s.payload)) alone
    ∙ append-nil (marker_bytes s.fill s.marker)

-- and of one whose marker has a length
pub spelled_sized : (s : Segment) → is_alone s.marker ≡ false
    → segment_bytes s ≡ marker_bytes s.fill s.marker ++ (to_be_bytes w16 (length s.payload + 2) ++ s.payload)
spelled_sized s sized =
    ap (λ b. marker_bytes s.fill s.marker ++ cond b [] (to_be_bytes w16 (length s.payload + 2) ++ s.payload)) sized

-- a marker that stands alone is a segment
pub alone_extent : (file : List ℕ) (at : ℕ) (m : Marker) → at < m.place → m.place < length file → IsMarkerAt file at m
    → is_segment_marker m.code ≡ true → is_alone m.code ≡ true
    → IsExtent file at (record { marker = m.code; body = m.place + 1; end = m.place + 1 })
alone_extent file at m lt inside is marker alone =
    let none : m.place + 1 - (m.place + 1) ≡ 0 = omega arith in
    let nothing : take (m.place + 1 - (m.place + 1)) (drop (m.place + 1) file) ≡ [] =
    ap (λ n. take n (drop (m.place + 1) file)) none in
    record {
      fill = m.place - at - 1;
      later = omega arith;
      inside = omega arith;
      ordered = omega arith;
      legal = record { marker = marker; alone = λ _. nothing; fits = rw nothing (lit< tt) };
      bytes = marker_split file at m lt inside is
          ∙ ap (λ (x : List ℕ). x ++ drop (m.place + 1) file) (sym (spelled_alone (record { fill = m.place - at - 1; marker = m.code; payload = take (m.place + 1 - (m.place + 1)) (drop (m.place + 1) file) }) alone));
    }

-- the two bytes of a length, and what follows them
length_split : (file : List ℕ) (q : ℕ) → q + 3 ≤ length file
    → drop (q + 1) file ≡ get_or file (q + 1) 0 ∷ get_or file (q + 2) 0 ∷ drop (q + 3) file
length_split file q inside =
    let one : q + 1 < length file = omega arith in
    let two : q + 1 + 1 < length file = omega arith in
    let next : q + 1 + 1 ≡ q + 2 = omega arith in
    let after : q + 1 + 1 + 1 ≡ q + 3 = omega arith in
    drop_more file (q + 1) 0 one
    ∙ ap (λ (x : List ℕ). get_or file (q + 1) 0 ∷ x)
    (drop_more file (q + 1 + 1) 0 two ∙ ap (λ n. get_or file n 0 ∷ drop (q + 1 + 1 + 1) file) next ∙ ap (λ n. get_or file (q + 2) 0 ∷ drop n file) after)

-- a part of a list and what follows it
pub part_split : (file : List ℕ) (from to : ℕ) → from ≤ to → to ≤ length file
    → drop from file ≡ take (to - from) (drop from file) ++ drop to file
part_split file from to le inside =
    let there : from + (to - from) ≡ to = omega arith in
    sym (take-append-drop (to - from) (drop from file))
    ∙ ap (λ (x : List ℕ). take (to - from) (drop from file) ++ x)
    (drop-drop (to - from) from file ∙ ap (λ n. drop n file) there)

-- the length of such a part
pub part_length : (file : List ℕ) (from to : ℕ) → from ≤ to → to ≤ length file
    → length (take (to - from) (drop from file)) ≡ to - from
part_length file from to le inside = length-take-le (to - from) (drop from file) (omega (arith, length-drop from file))

-- a marker with a length, and so many bytes, are a segment
pub sized_is : (file : List ℕ) (at : ℕ) (m : Marker) (e : Extent) → at < m.place → m.place < length file
    → IsMarkerAt file at m
    → is_segment_marker m.code ≡ true → is_alone m.code ≡ false → IsSized file m e → IsExtent file at e
sized_is file at m e lt inside is marker sized extent =
    subst (IsExtent file at) (sym extent.is) (record {
      fill = m.place - at - 1;
      later = omega (arith, extent.least);
      inside = extent.inside;
      ordered = omega (arith, extent.least);
      legal = record { marker = marker; alone = λ h. cc; fits = omega (arith, size, extent.high, extent.low) };
      bytes = marker_split file at m lt inside is
          ∙ ap (λ (x : List ℕ). marker_bytes (m.place - at - 1) m.code ++ x) whole
          ∙ sym
          (append_assoc (marker_bytes (m.place - at - 1) m.code) (to_be_bytes w16 (length payload + 2) ++ payload) (drop to file))
          ∙ ap (λ (x : List ℕ). x ++ drop to file) (sym (spelled_sized (record { fill = m.place - at - 1; marker = m.code; payload = payload }) sized));
    })
  where
    to : ℕ
    to = m.place + 1 + length_at file m.place

    payload : List ℕ
    payload = take (to - (m.place + 3)) (drop (m.place + 3) file)

    size : length payload + 2 ≡ length_at file m.place
    size = omega (arith, part_length file (m.place + 3) to (omega (arith, extent.least)) extent.inside, extent.least)

    whole : drop (m.place + 1) file ≡ (to_be_bytes w16 (length payload + 2) ++ payload) ++ drop to file
    whole = length_split file m.place (omega (arith, extent.least, extent.inside))
        ∙ ap (λ (x : List ℕ). get_or file (m.place + 1) 0 ∷ get_or file (m.place + 2) 0 ∷ x)
        (part_split file (m.place + 3) to (omega (arith, extent.least)) extent.inside)
        ∙ ap (λ (x : List ℕ). x ++ (payload ++ drop to file))
        (sym (two_bytes (get_or file (m.place + 1) 0) (get_or file (m.place + 2) 0) (length payload + 2) extent.high extent.low size))
        ∙ sym (append_assoc (to_be_bytes w16 (length payload + 2)) payload (drop to file))

-- the number that Truncated keeps is the file's length
pub size_of_rest : (file : List ℕ) (at n : ℕ) → at ≤ length file → n ≡ length file → at + length (drop at file) ≡ n
size_of_rest file at n le e = omega (arith, length-drop at file)

-- a file that ends too early is named by its length
truncated : (file : List ℕ) (at n : ℕ) → at ≤ length file → n ≡ length file
    → MarkerFault at (drop at file) (Truncated (at + length (drop at file)))
    → MarkerFault at (drop at file) (Truncated n)
truncated file at n le e = subst (λ k. MarkerFault at (drop at file) (Truncated k)) (size_of_rest file at n le e)

-- the faults of a length are faults of the marker
pub sized_fault : (file : List ℕ) (at : ℕ) (m : Marker) (e : MediaError) → at < m.place → m.place < length file
    → IsMarkerAt file at m
    → is_segment_marker m.code ≡ true → is_alone m.code ≡ false → SizedFault file at m.place e
    → MarkerFault at (drop at file) e
sized_fault file at m (Truncated n) lt inside is marker sized extent =
    truncated file at n (omega arith) extent.0 (⊎_elim (λ short. no_length (m.place - at - 1) m.code (drop (m.place + 1) file) (marker_split file at m lt inside is) (and_not_true _ _ marker sized) (omega (arith, length-drop (m.place + 1) file, short)))
    (λ cut. cut_short (m.place - at - 1) m.code (get_or file (m.place + 1) 0) (get_or file (m.place + 2) 0) (drop (m.place + 3) file)
    (marker_split file at m lt inside is ∙ ap (λ (x : List ℕ). marker_bytes (m.place - at - 1) m.code ++ x) (length_split file m.place cut.0)) (and_not_true _ _ marker sized) cut.1 (omega (arith, length-drop (m.place + 3) file, cut.2))) extent.1)
sized_fault file at m (BadSegment p) lt inside is marker sized extent =
    subst (λ k. MarkerFault at (drop at file) (BadSegment k)) (sym extent.0)
    (short_length (m.place - at - 1) m.code (get_or file (m.place + 1) 0) (get_or file (m.place + 2) 0) (drop (m.place + 3) file)
    (marker_split file at m lt inside is ∙ ap (λ (x : List ℕ). marker_bytes (m.place - at - 1) m.code ++ x) (length_split file m.place extent.1)) (and_not_true _ _ marker sized) extent.2)
sized_fault file at m _ lt inside is marker sized extent = absurd extent

-- no marker at all: nothing is left, or nothing but fill
pub no_marker_left : (file : List ℕ) (at n : ℕ) → at ≤ length file → n ≡ length file
    → drop at file ≡ replicate (length file - at) 255 → MarkerFault at (drop at file) (Truncated n)
no_marker_left file at n le e fill = ⊎_elim
    (λ some. truncated file at n le e (fill_alone (length file - at - 1) (fill ∙ ap (λ n. replicate n 255) (let e : length file - at ≡ length file - at - 1 + 1 = omega (arith, some) in e))))
    (λ none. truncated file at n le e (nothing_left (drop_all at file (omega (arith, none)))))
    (cases_lt at (length file))

-- the first byte is no fill
pub no_fill : (file : List ℕ) (at : ℕ) (m : Marker) → m.place ≡ at → m.place < length file → IsMarkerAt file at m
    → m.code ≢ 255 → MarkerFault at (drop at file) (BadMarker at)
no_fill file at m here lt is other =
    let code : m.code ≡ get_or file at 0 = is.code ∙ ap (λ n. get_or file n 0) here in
    no_marker m.code (drop (at + 1) file)
    (drop_more file at 0 (omega arith) ∙ ap (λ c. c ∷ drop (at + 1) file) (sym code)) other

-- a marker that begins nothing is a fault
pub bad_kind : (file : List ℕ) (at : ℕ) (m : Marker) → at < m.place → m.place < length file → IsMarkerAt file at m
    → (m.code ≡ 0) ⊎ (m.code ≡ 0xD8) → MarkerFault at (drop at file) (BadMarker at)
bad_kind file at m lt inside is bad =
    bad_marker (m.place - at - 1) m.code (drop (m.place + 1) file) (marker_split file at m lt inside is) bad

-- EOI and SOS end the segments
pub end_here : (file : List ℕ) (at : ℕ) (m : Marker) → at < m.place → m.place < length file → IsMarkerAt file at m
    → (m.code ≡ 0xD9) ⊎ (m.code ≡ 0xDA) → EndsSegments (drop at file)
end_here file at m lt inside is ends =
    record
    { fill = m.place - at - 1; marker = m.code; more = drop (m.place + 1) file; bytes = marker_split file at m lt inside is; ends = ends }

-- the same of an error that may come from outside
pub sized_error : (file : List ℕ) (at : ℕ) (m : Marker) (e : MediaError) → at < m.place → m.place < length file
    → IsMarkerAt file at m → is_segment_marker m.code ≡ true → is_alone m.code ≡ false
    → OrJpegFault e (SizedFault file at m.place e) → OrJpegFault e (MarkerFault at (drop at file) e)
sized_error file at m e lt inside is marker sized extent =
    or_outside-map e (SizedFault file at m.place e) (MarkerFault at (drop at file) e)
    (sized_fault file at m e lt inside is marker sized) extent
