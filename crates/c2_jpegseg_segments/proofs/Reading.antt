-- With what a list of bytes begins: a function, and that each form of the definitions is read so.
use Rattle.std.proofs.Common.{◌≡◌, ◌≢◌, ℕ, zero, suc, ◌+◌, ◌-◌, ◌*◌, ◌<◌, ⊎_elim, Bool, ◌||◌, true, false, cond, List, [], ◌∷◌, ◌++◌, length, get_or, take, drop, replicate, refl, sym, ap, ◌∙◌, append_assoc, arith, eqb, ltb, add-one, length-append}
use Rattle.std.proofs.lemmas.List.{take_at, drop_at}
use Rattle.std.proofs.lemmas.Nat.{from_be_bytes-to_be_bytes_2}
use Rattle.std.specs.Int.{w16, to_be_bytes}
use borrow.Author.Tests.{ltb-true, lt-ltb, le-ltb, ne_eqb, not-true}
use Rattle.c2_base.specs.declared.media.MediaError.{MediaError}
use Rattle.c2_base.specs.declared.media.MediaError.TheVariants.{Truncated, BadSegment, BadMarker}
use Rattle.c2_spec.specs.Jpeg.Segments.{Segment, IsSegment, EndsSegments, MarkerFault, nothing_left, no_marker, fill_alone, bad_marker, no_length, short_length, cut_short, marker_bytes, segment_bytes, is_alone, is_segment_marker, is_sized}
use Rattle.c2_jpegseg_segments.proofs.Markers.{spelled_alone, spelled_sized}
use Rattle.c2_lemmas.proofs.Bools.{both_true, or_cases, or_neither}

-- what is read at the beginning of the rest of a file
pub data Reading : Type 0 where
  ends : Reading
  fails : MediaError → Reading
  finds : Segment → List ℕ → Reading

-- how many fill bytes come first
abbrev pub front : List ℕ → ℕ
front [] = 0
front (x ∷ xs) = cond (eqb x 255) (suc (front xs)) 0

-- after a marker with a length
abbrev pub sized : ℕ → ℕ → ℕ → ℕ → List ℕ → Reading
sized p n fill m [] = fails (Truncated n)
sized p n fill m (a ∷ []) = fails (Truncated n)
sized p n fill m (a ∷ b ∷ more) = cond (ltb (a * 256 + b) 2) (fails (BadSegment p)) (cond (ltb (length more + 2) (a * 256 + b)) (fails (Truncated n))
    (finds (record { fill = fill; marker = m; payload = take (a * 256 + b - 2) more }) (drop (a * 256 + b - 2) more)))

-- at a marker
abbrev pub at_a_marker : ℕ → ℕ → ℕ → ℕ → List ℕ → Reading
at_a_marker p n fill m more = cond (eqb m 0 || eqb m 0xD8) (fails (BadMarker p)) (cond (eqb m 0xD9 || eqb m 0xDA) ends
    (cond (is_alone m) (finds (record { fill = fill; marker = m; payload = [] }) more) (sized p n fill m more)))

-- after so many bytes FF
abbrev pub after_fill : ℕ → ℕ → ℕ → List ℕ → Reading
after_fill p n k [] = fails (Truncated n)
after_fill p n zero (m ∷ more) = fails (BadMarker p)
after_fill p n (suc fill) (m ∷ more) = at_a_marker p n fill m more

-- at a place
unfoldable pub read : ℕ → List ℕ → Reading
read p rest = after_fill p (p + length rest) (front rest) (drop (front rest) rest)

-- so many bytes FF are counted
front-fill : (k m : ℕ) (more : List ℕ) → m ≢ 255 → front (replicate k 255 ++ m ∷ more) ≡ k
front-fill zero m more other = ap (λ b. cond b (suc (front more)) 0) (ne_eqb m 255 other)
front-fill (suc k) m more other = ap suc (front-fill k m more other)

-- and passed
drop-fill : (k m : ℕ) (more : List ℕ) → drop k (replicate k 255 ++ m ∷ more) ≡ m ∷ more
drop-fill zero m more = refl
drop-fill (suc k) m more = drop-fill k m more

-- also where nothing follows
front-all : (k : ℕ) → front (replicate k 255) ≡ k
front-all zero = refl
front-all (suc k) = ap suc (front-all k)

-- (the same)
drop-fill_all : (k : ℕ) → drop {A = ℕ} k (replicate k 255) ≡ []
drop-fill_all zero = refl
drop-fill_all (suc k) = drop-fill_all k

-- fill and a marker, as bytes FF and a byte
pub marker_shape : (fill m : ℕ) (more : List ℕ) → marker_bytes fill m ++ more ≡ replicate (suc fill) 255 ++ m ∷ more
marker_shape fill m more =
    append_assoc (replicate (fill + 1) 255) (m ∷ []) more ∙ ap (λ n. replicate n 255 ++ m ∷ more) (add-one fill)

-- fill and a marker are read
pub read-marker : (p fill m : ℕ) (more : List ℕ) → m ≢ 255
    → read p (marker_bytes fill m ++ more) ≡ at_a_marker p (p + length (marker_bytes fill m ++ more)) fill m more
unfolding read
read-marker p fill m more other =
    let shape : marker_bytes fill m ++ more ≡ replicate (suc fill) 255 ++ m ∷ more = marker_shape fill m more in
    let count : front (marker_bytes fill m ++ more) ≡ suc fill = ap front shape ∙ front-fill (suc fill) m more other in
    let rest : drop (front (marker_bytes fill m ++ more)) (marker_bytes fill m ++ more) ≡ m ∷ more =
    ap (λ k. drop k (marker_bytes fill m ++ more)) count ∙ ap (drop (suc fill)) shape
    ∙ drop-fill (suc fill) m more in
    ap (λ (x : List ℕ). after_fill p (p + length (marker_bytes fill m ++ more)) (front (marker_bytes fill m ++ more)) x)
    rest
    ∙ ap (λ k. after_fill p (p + length (marker_bytes fill m ++ more)) k (m ∷ more)) count

-- a marker of a segment is none of the others
record IsOwn (m : ℕ) : Type 0 where
  pub fill : m ≢ 255
  pub bad : (eqb m 0 || eqb m 0xD8) ≡ false
  pub last : (eqb m 0xD9 || eqb m 0xDA) ≡ false

-- (the same, as a fact)
own : (m : ℕ) → is_segment_marker m ≡ true → IsOwn m
own m h =
    let outer = both_true _ _ h in
    let inner = both_true _ _ outer.0 in
    let low : 0 < m = ltb-true 0 m inner.0 in
    let high : m < 255 = ltb-true m 255 inner.1 in
    ⊎_elim
    (λ small. let s : m < 0xD8 = ltb-true m 0xD8 small in record { fill = omega arith; bad = or_neither _ _ (ne_eqb m 0 (omega arith)) (ne_eqb m 0xD8 (omega arith)); last = or_neither _ _ (ne_eqb m 0xD9 (omega arith)) (ne_eqb m 0xDA (omega arith)) })
    (λ large. let s : 0xDA < m = ltb-true 0xDA m large in record { fill = omega arith; bad = or_neither _ _ (ne_eqb m 0 (omega arith)) (ne_eqb m 0xD8 (omega arith)); last = or_neither _ _ (ne_eqb m 0xD9 (omega arith)) (ne_eqb m 0xDA (omega arith)) })
    (or_cases _ _ outer.1)

-- so the tests of the others are passed
at_own : (p n fill m : ℕ) (more : List ℕ) → is_segment_marker m ≡ true
    → at_a_marker p n fill m more ≡ cond (is_alone m) (finds (record { fill = fill; marker = m; payload = [] }) more) (sized p n fill m more)
at_own p n fill m more h =
    let o : IsOwn m = own m h in
    ap
    (λ b. cond b (fails (BadMarker p)) (cond (eqb m 0xD9 || eqb m 0xDA) ends (cond (is_alone m) (finds (record { fill = fill; marker = m; payload = [] }) more) (sized p n fill m more))))
    o.bad
    ∙ ap
    (λ b. cond b ends (cond (is_alone m) (finds (record { fill = fill; marker = m; payload = [] }) more) (sized p n fill m more)))
    o.last

-- a marker that stands alone
at_alone : (p n fill m : ℕ) (more : List ℕ) → is_segment_marker m ≡ true → is_alone m ≡ true
    → at_a_marker p n fill m more ≡ finds (record { fill = fill; marker = m; payload = [] }) more
at_alone p n fill m more h alone =
    at_own p n fill m more h
    ∙ ap (λ b. cond b (finds (record { fill = fill; marker = m; payload = [] }) more) (sized p n fill m more)) alone

-- a marker with a length
at_sized : (p n fill m : ℕ) (more : List ℕ) → is_segment_marker m ≡ true → is_alone m ≡ false
    → at_a_marker p n fill m more ≡ sized p n fill m more
at_sized p n fill m more h other =
    at_own p n fill m more h
    ∙ ap (λ b. cond b (finds (record { fill = fill; marker = m; payload = [] }) more) (sized p n fill m more)) other

-- a length and so many bytes are read
sized_ok : (p n fill m a b : ℕ) (payload more : List ℕ) → a * 256 + b ≡ length payload + 2
    → sized p n fill m (a ∷ b ∷ (payload ++ more)) ≡ finds (record { fill = fill; marker = m; payload = payload }) more
sized_ok p n fill m a b payload more e =
    let long : length (payload ++ more) ≡ length payload + length more = length-append payload more in
    let count : a * 256 + b - 2 ≡ length payload = omega (arith, e) in
    let one : ltb (a * 256 + b) 2 ≡ false = le-ltb (a * 256 + b) 2 (omega (arith, e)) in
    let two : ltb (length (payload ++ more) + 2) (a * 256 + b) ≡ false =
    le-ltb (length (payload ++ more) + 2) (a * 256 + b) (omega (arith, e, long)) in
    ap
    (λ t. cond t (fails (BadSegment p)) (cond (ltb (length (payload ++ more) + 2) (a * 256 + b)) (fails (Truncated n)) (finds (record { fill = fill; marker = m; payload = take (a * 256 + b - 2) (payload ++ more) }) (drop (a * 256 + b - 2) (payload ++ more)))))
    one
    ∙ ap
    (λ t. cond t (fails (Truncated n)) (finds (record { fill = fill; marker = m; payload = take (a * 256 + b - 2) (payload ++ more) }) (drop (a * 256 + b - 2) (payload ++ more))))
    two
    ∙ ap
    (λ (x : List ℕ). finds (record { fill = fill; marker = m; payload = x }) (drop (a * 256 + b - 2) (payload ++ more)))
    (take_at payload more (a * 256 + b - 2) (sym count))
    ∙ ap (λ (x : List ℕ). finds (record { fill = fill; marker = m; payload = payload }) x)
    (drop_at payload more (a * 256 + b - 2) (sym count))

-- a segment is read
pub read-segment : (p : ℕ) (s : Segment) (more : List ℕ) → IsSegment s → read p (segment_bytes s ++ more) ≡ finds s more
read-segment p s more legal = go (is_alone s.marker) refl
  where
    go : (b : Bool) → is_alone s.marker ≡ b → read p (segment_bytes s ++ more) ≡ finds s more
    go true h =
        ap (λ (x : List ℕ). read p (x ++ more)) (spelled_alone s h)
        ∙ read-marker p s.fill s.marker more (own s.marker legal.marker).fill
        ∙ at_alone p (p + length (marker_bytes s.fill s.marker ++ more)) s.fill s.marker more legal.marker h
        ∙ ap (λ (x : List ℕ). finds (record { fill = s.fill; marker = s.marker; payload = x }) more)
        (sym (legal.alone h))
    go false h =
        let size : to_be_bytes w16 (length s.payload + 2) ≡ get_or (to_be_bytes w16 (length s.payload + 2)) 0 0 ∷ get_or (to_be_bytes w16 (length s.payload + 2)) 1 0 ∷ [] = refl in
        let value : get_or (to_be_bytes w16 (length s.payload + 2)) 0 0 * 256 + get_or (to_be_bytes w16 (length s.payload + 2)) 1 0 ≡ length s.payload + 2 =
        from_be_bytes-to_be_bytes_2 (length s.payload + 2) legal.fits in
        ap (λ (x : List ℕ). read p (x ++ more)) (spelled_sized s h)
        ∙ ap (read p)
        (append_assoc (marker_bytes s.fill s.marker) (to_be_bytes w16 (length s.payload + 2) ++ s.payload) more ∙ ap (λ (x : List ℕ). marker_bytes s.fill s.marker ++ x) (append_assoc (to_be_bytes w16 (length s.payload + 2)) s.payload more))
        ∙ read-marker p s.fill s.marker (to_be_bytes w16 (length s.payload + 2) ++ (s.payload ++ more))
        (own s.marker legal.marker).fill
        ∙ at_sized p _ s.fill s.marker (to_be_bytes w16 (length s.payload + 2) ++ (s.payload ++ more)) legal.marker h
        ∙ sized_ok p _ s.fill s.marker _ _ s.payload more value

-- the end is read
pub read-end : (p : ℕ) (rest : List ℕ) → EndsSegments rest → read p rest ≡ ends
read-end p rest e =
    let last : (eqb e.marker 0xD9 || eqb e.marker 0xDA) ≡ true =
    ⊎_elim (λ h. ap (λ m. eqb m 0xD9 || eqb m 0xDA) h) (λ h. ap (λ m. eqb m 0xD9 || eqb m 0xDA) h) e.ends in
    let other : e.marker ≢ 255 = ⊎_elim (λ h. λ k. omega (arith, h, k)) (λ h. λ k. omega (arith, h, k)) e.ends in
    let good : (eqb e.marker 0 || eqb e.marker 0xD8) ≡ false =
    ⊎_elim (λ h. ap (λ m. eqb m 0 || eqb m 0xD8) h) (λ h. ap (λ m. eqb m 0 || eqb m 0xD8) h) e.ends in
    ap (read p) e.bytes ∙ read-marker p e.fill e.marker e.more other
    ∙ ap
    (λ b. cond b (fails (BadMarker p)) (cond (eqb e.marker 0xD9 || eqb e.marker 0xDA) ends (cond (is_alone e.marker) (finds (record { fill = e.fill; marker = e.marker; payload = [] }) e.more) (sized p (p + length (marker_bytes e.fill e.marker ++ e.more)) e.fill e.marker e.more))))
    good
    ∙ ap
    (λ b. cond b ends (cond (is_alone e.marker) (finds (record { fill = e.fill; marker = e.marker; payload = [] }) e.more) (sized p (p + length (marker_bytes e.fill e.marker ++ e.more)) e.fill e.marker e.more)))
    last

-- no room for a length
sized_none : (p n fill m : ℕ) (more : List ℕ) → length more < 2 → sized p n fill m more ≡ fails (Truncated n)
sized_none p n fill m [] short = refl
sized_none p n fill m (a ∷ []) short = refl
sized_none p n fill m (a ∷ b ∷ more) short = absurd (omega arith)

-- a marker that has a length
read-sized : (p fill m : ℕ) (more rest : List ℕ) → rest ≡ marker_bytes fill m ++ more → is_sized m ≡ true
    → read p rest ≡ sized p (p + length rest) fill m more
read-sized p fill m more rest shape h =
    let parts = both_true _ _ h in
    ap (read p) shape ∙ read-marker p fill m more (own m parts.0).fill
    ∙ at_sized p (p + length (marker_bytes fill m ++ more)) fill m more parts.0 (not-true _ parts.1)
    ∙ ap (λ (x : List ℕ). sized p (p + length x) fill m more) (sym shape)

-- a fault is read
pub read-fault : (p : ℕ) (rest : List ℕ) (e : MediaError) → MarkerFault p rest e → read p rest ≡ fails e
unfolding read
read-fault p rest _ (nothing_left none) =
    ap (λ (x : List ℕ). after_fill p (p + length rest) (front rest) x) (ap (λ (x : List ℕ). drop (front x) x) none)
read-fault p rest _ (no_marker byte more shape other) =
    let count : front rest ≡ 0 = ap front shape ∙ front-fill 0 byte more other in
    ap (λ k. after_fill p (p + length rest) k (drop k rest)) count
    ∙ ap (λ (x : List ℕ). after_fill p (p + length rest) 0 x) shape
read-fault p rest _ (fill_alone fill shape) =
    ap (λ (x : List ℕ). after_fill p (p + length rest) (front rest) x)
    (ap (λ (x : List ℕ). drop (front x) x) shape ∙ ap (λ k. drop {A = ℕ} k (replicate (fill + 1) 255)) (front-all (fill + 1)) ∙ drop-fill_all (fill + 1))
read-fault p rest _ (bad_marker fill m more shape bad) =
    let other : m ≢ 255 = ⊎_elim (λ h. λ k. omega (arith, h, k)) (λ h. λ k. omega (arith, h, k)) bad in
    let is : (eqb m 0 || eqb m 0xD8) ≡ true =
    ⊎_elim (λ h. ap (λ x. eqb x 0 || eqb x 0xD8) h) (λ h. ap (λ x. eqb x 0 || eqb x 0xD8) h) bad in
    ap (read p) shape ∙ read-marker p fill m more other
    ∙ ap
    (λ b. cond b (fails (BadMarker p)) (cond (eqb m 0xD9 || eqb m 0xDA) ends (cond (is_alone m) (finds (record { fill = fill; marker = m; payload = [] }) more) (sized p (p + length (marker_bytes fill m ++ more)) fill m more))))
    is
read-fault p rest _ (no_length fill m more shape h short) =
    read-sized p fill m more rest shape h ∙ sized_none p (p + length rest) fill m more short
read-fault p rest _ (short_length fill m a b more shape h short) =
    read-sized p fill m (a ∷ b ∷ more) rest shape h
    ∙ ap
    (λ t. cond t (fails (BadSegment p)) (cond (ltb (length more + 2) (a * 256 + b)) (fails (Truncated (p + length rest))) (finds (record { fill = fill; marker = m; payload = take (a * 256 + b - 2) more }) (drop (a * 256 + b - 2) more))))
    (lt-ltb (a * 256 + b) 2 short)
read-fault p rest _ (cut_short fill m a b more shape h least short) =
    read-sized p fill m (a ∷ b ∷ more) rest shape h
    ∙ ap
    (λ t. cond t (fails (BadSegment p)) (cond (ltb (length more + 2) (a * 256 + b)) (fails (Truncated (p + length rest))) (finds (record { fill = fill; marker = m; payload = take (a * 256 + b - 2) more }) (drop (a * 256 + b - 2) more))))
    (le-ltb (a * 256 + b) 2 least)
    ∙ ap
    (λ t. cond t (fails (Truncated (p + length rest))) (finds (record { fill = fill; marker = m; payload = take (a * 256 + b - 2) more }) (drop (a * 256 + b - 2) more)))
    (lt-ltb (length more + 2) (a * 256 + b) short)
