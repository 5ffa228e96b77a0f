-- The segments that a walk keeps are those of the file without the range.
use Rattle.std.proofs.Common.{◌≡◌, ℕ, ◌+◌, ◌-◌, ◌<◌, ◌≤◌, ◌⊎◌, inl, inr, Bool, true, false, ◌&&◌, ◌||◌, leb, List, [], ◌∷◌, ◌++◌, length, take, drop, replicate, refl, sym, ap, ◌∙◌, subst, arith, length-append, append_assoc}
use Rattle.std.proofs.lemmas.Bool.{le-leb, lt-leb, leb-true}
use Rattle.std.proofs.lemmas.List.{take_at, drop_at, append-nil, take-append-drop, length-take, length-drop}
use Rattle.std.proofs.lemmas.List.Concat.{flat_map-append}
use Rattle.std.specs.List.{flat_map}
use Rattle.c2_base.specs.declared.values.Range.{Range}
use Rattle.c2_spec.specs.Jpeg.Segments.{Segment, IsSegment, HasSegments, segment_bytes, place_after, start_of_image, marker_bytes, after_marker, EndsSegments, MarkerFault}
use Rattle.c2_base.specs.declared.limits.TheConstants.{FILE_LEN_LIMIT}
use Rattle.c2_base.specs.declared.media.MediaError.{MediaError}
use Rattle.c2_spec.specs.Jpeg.Places.{IsOfSegments, CanSkip, SegmentsFault, at_marker}
use Rattle.c2_spec.specs.Jpeg.Writing.{is_taken, has_number}
use Rattle.c2_spec.specs.PutIn.{taken_out}
use Rattle.c2_jpegseg_segments.specs.Passing.{is_inside, kept_with, kept_from, kept, HasPassed, Passes}
use Rattle.c2_jpegseg_segments.specs.Segments.{IsExtent, segment_of}
use Rattle.c2_jpegseg_segments.specs.declared.marker.Extent.{Extent}
use Rattle.c2_jpegseg_segments.proofs.Steps.{end-place}
use Rattle.c2_jpegseg_segments.proofs.SegmentLists.{place-append, begins-push}
use Rattle.c2_jpegseg_segments.proofs.OneList.{one_list}
use Rattle.c2_lemmas.proofs.Each.{each_append, each_back, each_front}

-- a file whose segments were walked to their end is a list of segments, whatever was passed over
pub walked_segments : (file : List ℕ) (skip : Range) (State : List Segment → Type 0) → length file < FILE_LEN_LIMIT
    → HasPassed file skip State → (segments : List Segment) × IsOfSegments file segments
walked_segments file skip State small h =
    (h.passes.segments, record { fits = small; rest = drop h.at file; begins = h.passes.begins; ends = h.ends })

-- a segment has bytes
pub some_bytes : (s : Segment) → 0 < length (segment_bytes s)
some_bytes s =
    let parts : length (segment_bytes s) ≡ length (marker_bytes s.fill s.marker) + length (after_marker s) =
    length-append (marker_bytes s.fill s.marker) (after_marker s) in
    let one : length (marker_bytes s.fill s.marker) ≡ length (replicate (s.fill + 1) 255) + 1 =
    length-append (replicate (s.fill + 1) 255) (s.marker ∷ []) in
    omega (arith, parts, one)

-- how many bytes of segments there are after one
pub one_more : (s : Segment) (ss : List Segment)
    → length (flat_map segment_bytes (s ∷ ss)) ≡ length (segment_bytes s) + length (flat_map segment_bytes ss)
one_more s ss = length-append (segment_bytes s) (flat_map segment_bytes ss)

-- more segments after those that were walked
pub kept_from-append : (skip : Range) (at : ℕ) (xs ys : List Segment)
    → kept_from skip at (xs ++ ys) ≡ kept_from skip at xs ++ kept_from skip (at + length (flat_map segment_bytes xs)) ys
kept_from-append skip at [] ys = let e : at + 0 ≡ at = omega arith in ap (λ n. kept_from skip n ys) (sym e)
kept_from-append skip at (x ∷ xs) ys =
    let next : ℕ = at + length (segment_bytes x) in
    let there : next + length (flat_map segment_bytes xs) ≡ at + length (flat_map segment_bytes (x ∷ xs)) =
    omega (arith, one_more x xs) in
    step (is_inside skip at next) (kept_from skip next (xs ++ ys)) (kept_from skip next xs)
    (kept_from skip (at + length (flat_map segment_bytes (x ∷ xs))) ys)
    (kept_from-append skip next xs ys ∙ ap (λ n. kept_from skip next xs ++ kept_from skip n ys) there)
  where
    step : (b : Bool) (us zs ws : List Segment) → us ≡ zs ++ ws → kept_with b x us ≡ kept_with b x zs ++ ws
    step true us zs ws e = e
    step false us zs ws e = ap (λ (ts : List Segment). x ∷ ts) e

-- what lies before the range or behind it is kept
pub outside_kept : (skip : Range) (at : ℕ) (ss : List Segment)
    → (at + length (flat_map segment_bytes ss) ≤ skip.start) ⊎ (skip.start + skip.length ≤ at)
    → kept_from skip at ss ≡ ss
outside_kept skip at [] where_ = refl
outside_kept skip at (s ∷ ss) where_ =
    ap (λ b. kept_with b s (kept_from skip (at + length (segment_bytes s)) ss)) (test where_)
    ∙ ap (λ (ts : List Segment). s ∷ ts) (outside_kept skip (at + length (segment_bytes s)) ss (on where_))
  where
    test : (at + length (flat_map segment_bytes (s ∷ ss)) ≤ skip.start) ⊎ (skip.start + skip.length ≤ at)
        → is_inside skip at (at + length (segment_bytes s)) ≡ false
    test (inl before) = let e : leb skip.start at ≡ false = lt-leb skip.start at (omega (arith, before, one_more s ss, some_bytes s)) in ap (λ b. b && leb (at + length (segment_bytes s) - skip.start) skip.length) e
    test (inr behind) = let e : leb (at + length (segment_bytes s) - skip.start) skip.length ≡ false = lt-leb _ _ (omega (arith, behind, some_bytes s)) in ap (λ b. leb skip.start at && b) e ∙ and-false (leb skip.start at)
      where
        and-false : (b : Bool) → (b && false) ≡ false
        and-false true = refl
        and-false false = refl

    on : (at + length (flat_map segment_bytes (s ∷ ss)) ≤ skip.start) ⊎ (skip.start + skip.length ≤ at)
        → (at + length (segment_bytes s) + length (flat_map segment_bytes ss) ≤ skip.start) ⊎ (skip.start + skip.length ≤ at + length (segment_bytes s))
    on (inl before) = inl (omega (arith, before, one_more s ss))
    on (inr behind) = inr (omega (arith, behind))

-- what lies in the range is passed over
pub inside_passed : (skip : Range) (at : ℕ) (ss : List Segment) → skip.start ≤ at
    → at + length (flat_map segment_bytes ss) ≤ skip.start + skip.length → kept_from skip at ss ≡ []
inside_passed skip at [] from to = refl
inside_passed skip at (s ∷ ss) from to =
    let low : leb skip.start at ≡ true = le-leb skip.start at from in
    let high : leb (at + length (segment_bytes s) - skip.start) skip.length ≡ true =
    le-leb _ _ (omega (arith, from, to, one_more s ss)) in
    ap
    (λ b. kept_with (b && leb (at + length (segment_bytes s) - skip.start) skip.length) s (kept_from skip (at + length (segment_bytes s)) ss))
    low
    ∙ ap (λ b. kept_with b s (kept_from skip (at + length (segment_bytes s)) ss)) high
    ∙ inside_passed skip (at + length (segment_bytes s)) ss (omega (arith, from)) (omega (arith, to, one_more s ss))

-- nothing lies in an empty range
pub none_inside : (skip : Range) (at : ℕ) (ss : List Segment) → skip.length ≡ 0 → kept_from skip at ss ≡ ss
none_inside skip at [] none = refl
none_inside skip at (s ∷ ss) none = ap (λ b. kept_with b s (kept_from skip (at + length (segment_bytes s)) ss)) test ∙ ap (λ (ts : List Segment). s ∷ ts) (none_inside skip (at + length (segment_bytes s)) ss none)
  where
    go : (a b : Bool) → leb skip.start at ≡ a → leb (at + length (segment_bytes s) - skip.start) skip.length ≡ b
        → (a && b) ≡ false
    go false b l h = refl
    go true false l h = refl
    go true true l h = absurd (omega (arith, none, some_bytes s, leb-true _ _ l, leb-true _ _ h))

    test : is_inside skip at (at + length (segment_bytes s)) ≡ false
    test = go (leb skip.start at) (leb (at + length (segment_bytes s) - skip.start) skip.length) refl refl

-- a file without an empty range is the file
taken_out-none : (start len : ℕ) (file : List ℕ) → len ≡ 0 → taken_out start len file ≡ file
taken_out-none start len file none = let e : start + len ≡ start = omega (arith, none) in ap (λ n. take start file ++ drop n file) e ∙ take-append-drop start file

-- segments, without those in the middle
without_middle : (file : List ℕ) (before run after : List Segment) (rest : List ℕ) (start len : ℕ)
    → HasSegments file (before ++ (run ++ after)) rest → start ≡ place_after before
    → len ≡ length (flat_map segment_bytes run)
    → HasSegments (taken_out start len file) (before ++ after) rest
without_middle file before run after rest start len h from for =
    let f : List ℕ = start_of_image ++ flat_map segment_bytes before in
    let n : List ℕ = flat_map segment_bytes run in
    let r : List ℕ = flat_map segment_bytes after ++ rest in
    let is : file ≡ f ++ (n ++ r) =
    h.bytes
    ∙ ap (λ (x : List ℕ). start_of_image ++ x ++ rest)
    (flat_map-append segment_bytes before (run ++ after) ∙ ap (λ (x : List ℕ). flat_map segment_bytes before ++ x) (flat_map-append segment_bytes run after))
    ∙ ap (λ (x : List ℕ). x ++ rest)
    (sym (append_assoc start_of_image (flat_map segment_bytes before) (n ++ flat_map segment_bytes after)))
    ∙ append_assoc f (n ++ flat_map segment_bytes after) rest ∙ ap (λ (x : List ℕ). f ++ x) (append_assoc n (flat_map segment_bytes after) rest) in
    let size : length f ≡ start = omega (arith, from) in
    let both : length (f ++ n) ≡ start + len = omega (arith, length-append f n, size, for) in
    let front : take start file ≡ f = ap (take start) is ∙ take_at f (n ++ r) start size in
    let back : drop (start + len) file ≡ r =
    ap (drop (start + len)) (is ∙ sym (append_assoc f n r)) ∙ drop_at (f ++ n) r (start + len) both in
    let whole : start_of_image ++ flat_map segment_bytes (before ++ after) ++ rest ≡ f ++ r =
    ap (λ (x : List ℕ). start_of_image ++ x ++ rest) (flat_map-append segment_bytes before after)
    ∙ ap (λ (x : List ℕ). x ++ rest)
    (sym (append_assoc start_of_image (flat_map segment_bytes before) (flat_map segment_bytes after)))
    ∙ append_assoc f (flat_map segment_bytes after) rest in
    record {
      bytes = ap (λ (x : List ℕ). x ++ drop (start + len) file) front ∙ ap (λ (x : List ℕ). f ++ x) back ∙ sym whole;
      each =
          each_append IsSegment before after (each_front IsSegment before (run ++ after) h.each)
          (each_back IsSegment run after (each_back IsSegment before (run ++ after) h.each));
    }

-- the file without a range that may be passed over is the segments that are kept
pub kept_is : (file : List ℕ) (skip : Range) (segments : List Segment) (rest : List ℕ) → length file < FILE_LEN_LIMIT
    → HasSegments file segments rest → EndsSegments rest → CanSkip file skip
    → IsOfSegments (taken_out skip.start skip.length file) (kept skip segments)
kept_is file skip segments rest small has ends can = record { fits = fits; rest = rest; begins = begins can; ends = ends }
  where
    fits : length (taken_out skip.start skip.length file) < FILE_LEN_LIMIT
    fits =
        omega
        (arith, small, length-append (take skip.start file) (drop (skip.start + skip.length) file), length-take skip.start file, length-drop (skip.start + skip.length) file)

    begins : CanSkip file skip → HasSegments (taken_out skip.start skip.length file) (kept skip segments) rest
    begins (inl none) =
        subst (λ (ss : List Segment). HasSegments (taken_out skip.start skip.length file) ss rest)
        (sym (none_inside skip 2 segments none))
        (subst (λ (f : List ℕ). HasSegments f segments rest) (sym (taken_out-none skip.start skip.length file none)) has)
    begins (inr (store, h)) =
        let same = one_list file segments h.segments rest h.rest has h.begins ends h.ends in
        let held = h.holds in
        let before : List Segment = held.before in
        let run : List Segment = held.first ∷ held.others in
        let after : List Segment = held.after in
        let parts : segments ≡ before ++ (run ++ after) = same.0 ∙ held.split in
        let at : ℕ = 2 + length (flat_map segment_bytes before) in
        let there : at ≡ skip.start = sym held.from in
        let long : length (flat_map segment_bytes run) ≡ skip.length = sym held.for in
        let first : kept_from skip 2 before ≡ before = outside_kept skip 2 before (inl (omega (arith, there))) in
        let second : kept_from skip at run ≡ [] =
        inside_passed skip at run (omega (arith, there)) (omega (arith, there, long)) in
        let third : kept_from skip (at + length (flat_map segment_bytes run)) after ≡ after =
        outside_kept skip (at + length (flat_map segment_bytes run)) after (inr (omega (arith, there, long))) in
        let whole : kept skip segments ≡ before ++ after =
        ap (kept skip) parts ∙ kept_from-append skip 2 before (run ++ after)
        ∙ ap (λ (ts : List Segment). ts ++ kept_from skip at (run ++ after)) first
        ∙ ap (λ (ts : List Segment). before ++ ts) (kept_from-append skip at run after ∙ ap (λ (ts : List Segment). ts ++ kept_from skip (at + length (flat_map segment_bytes run)) after) second ∙ third) in
        subst (λ (ss : List Segment). HasSegments (taken_out skip.start skip.length file) ss rest) (sym whole)
        (without_middle file before run after rest skip.start skip.length (subst (λ (ss : List Segment). HasSegments file ss rest) parts has) held.from held.for)

-- ---- the walk

-- the walk begins
pub passes-start : (file : List ℕ) (skip : Range) (State : List Segment → Type 0) → 2 ≤ length file
    → take 2 file ≡ start_of_image → State [] → Passes file skip 2 State
passes-start file skip State long begun state = record {
  segments = [];
  begins = record { bytes = sym (take-append-drop 2 file) ∙ ap (λ (x : List ℕ). x ++ drop 2 file) begun; each = tt };
  place = refl;
  inside = long;
  state = state;
}

-- the walk goes on
pub passes-next : (file : List ℕ) (skip : Range) (at : ℕ) (State New : List Segment → Type 0) (e : Extent)
    → Passes file skip at State → (x : IsExtent file at e)
    → ((ss : List Segment) → State ss → New (ss ++ kept_with (is_inside skip at e.end) (segment_of x.fill file e) []))
    → Passes file skip e.end New
passes-next file skip at State New e w x on =
    let s : Segment = segment_of x.fill file e in
    let end : e.end ≡ place_after (w.segments ++ s ∷ []) = end-place file at e w.segments w.place x in
    let more : place_after (w.segments ++ s ∷ []) ≡ place_after w.segments + length (flat_map segment_bytes (s ∷ [])) =
    place-append w.segments (s ∷ []) in
    let one : length (flat_map segment_bytes (s ∷ [])) ≡ length (segment_bytes s) =
    ap length (append-nil (segment_bytes s)) in
    let to : at + length (segment_bytes s) ≡ e.end = omega (arith, end, more, one, w.place) in
    let from : 2 + length (flat_map segment_bytes w.segments) ≡ at = sym w.place in
    let list : kept skip (w.segments ++ s ∷ []) ≡ kept skip w.segments ++ kept_with (is_inside skip at e.end) s [] =
    kept_from-append skip 2 w.segments (s ∷ [])
    ∙ ap (λ n. kept skip w.segments ++ kept_with (is_inside skip n (n + length (segment_bytes s))) s []) from
    ∙ ap (λ n. kept skip w.segments ++ kept_with (is_inside skip at n) s []) to in
    record {
      segments = w.segments ++ s ∷ [];
      begins = begins-push file w.segments s (drop at file) (drop e.end file) w.begins x.legal x.bytes;
      place = end;
      inside = x.inside;
      state = subst New (sym list) (on (kept skip w.segments) w.state);
    }

-- the walk is refused
pub passes-refuse : (file : List ℕ) (skip : Range) (at : ℕ) (State : List Segment → Type 0) (e : MediaError)
    → length file < FILE_LEN_LIMIT → Passes file skip at State → MarkerFault at (drop at file) e → SegmentsFault file e
passes-refuse file skip at State e small w fault =
    at_marker w.segments (drop at file) e small w.begins (subst (λ p. MarkerFault p (drop at file) e) w.place fault)

-- one more segment that is passed over
pub kept-less : (State : List Segment → Type 0) (passed : Bool) (ss : List Segment) (s : Segment)
    → passed ≡ true → State ss → State (ss ++ kept_with passed s [])
kept-less State passed ss s is_passed h =
    subst (λ b. State (ss ++ kept_with b s [])) (sym is_passed) (subst State (sym (append-nil ss)) h)

-- one that isn't
pub kept-more : (State : List Segment → Type 0) (passed : Bool) (ss : List Segment) (s : Segment)
    → passed ≡ false → State (ss ++ s ∷ []) → State (ss ++ kept_with passed s [])
kept-more State passed ss s not_passed h = subst (λ b. State (ss ++ kept_with b s [])) (sym not_passed) h

-- ---- numbers

-- one more segment's number
pub taken-push : (ss : List Segment) (s : Segment) (n : ℕ)
    → is_taken (ss ++ s ∷ []) n ≡ (is_taken ss n || has_number n s)
taken-push [] s n = or-false (has_number n s)
  where
    or-false : (b : Bool) → (b || false) ≡ b
    or-false true = refl
    or-false false = refl
taken-push (x ∷ ss) s n = step (has_number n x) (taken-push ss s n)
  where
    step : (b : Bool) → is_taken (ss ++ s ∷ []) n ≡ (is_taken ss n || has_number n s)
        → (b || is_taken (ss ++ s ∷ []) n) ≡ ((b || is_taken ss n) || has_number n s)
    step true e = refl
    step false e = e
