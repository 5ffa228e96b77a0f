-- A piece that is put into a file: where the file's segments split there, and what is left without it.
use Rattle.std.specs.Prelude.{◌==◌}
use Rattle.std.proofs.Common.{◌≡◌, ℕ, suc, ◌+◌, ◌≤◌, Bool, true, false, cond, List, [], ◌∷◌, ◌++◌, length, take, drop, refl, sym, ap, ◌∙◌, arith, length-append, append_assoc}
use Rattle.std.proofs.lemmas.Bool.{or_parts}
use Rattle.std.proofs.lemmas.List.{take_at, drop_at, length-take-le, take-append-drop}
use Rattle.std.proofs.lemmas.List.Concat.{flat_map-append}
use Rattle.std.specs.List.{flat_map, AllByRecursion}
use Rattle.c2_spec.specs.declared.markers.TheConstants.{APP0}
use Rattle.c2_spec.specs.Jpeg.Segments.{Segment, IsSegment, HasSegments, segment_bytes, place_after, start_of_image}
use Rattle.c2_spec.specs.Jpeg.Writing.{leading_app0, insert_place, is_taken, has_number}
use Rattle.c2_spec.specs.PutIn.{put_in, taken_out}
use Rattle.c2_lemmas.proofs.Each.{each_append, each_back, each_front}

-- ---- segments behind the APP0 segments at the front

-- the segments behind the leading APP0 segments
abbrev pub behind_app0 : List Segment → List Segment
behind_app0 [] = []
behind_app0 (s ∷ ss) = cond (s.marker == APP0) (behind_app0 ss) (s ∷ ss)

-- where both parts of a list are all of it, they are so with one more segment in front, whichever part has it
app0_step : (b : Bool) (s : Segment) (ss : List Segment) → leading_app0 ss ++ behind_app0 ss ≡ ss
    → cond b (s ∷ leading_app0 ss) [] ++ cond b (behind_app0 ss) (s ∷ ss) ≡ s ∷ ss
app0_step true s ss e = ap (λ (x : List Segment). s ∷ x) e
app0_step false s ss e = refl

-- the leading APP0 segments and those behind them are all
pub app0_split : (ss : List Segment) → leading_app0 ss ++ behind_app0 ss ≡ ss
app0_split [] = refl
app0_split (s ∷ ss) = app0_step (s.marker == APP0) s ss (app0_split ss)

-- a number that is free among all is free behind
pub taken_back : (en : ℕ) (xs ys : List Segment) → is_taken (xs ++ ys) en ≡ false → is_taken ys en ≡ false
taken_back en [] ys h = h
taken_back en (x ∷ xs) ys h = taken_back en xs ys (or_parts (has_number en x) (is_taken (xs ++ ys) en) h).1

-- ---- segments that are put in

-- a base of split segments, and its bytes before and behind the place between them
split_base : (base : List ℕ) (front back : List Segment) (rest : List ℕ) → HasSegments base (front ++ back) rest
    → base ≡ (start_of_image ++ flat_map segment_bytes front) ++ (flat_map segment_bytes back ++ rest)
split_base base front back rest h =
    h.bytes ∙ ap (λ (x : List ℕ). start_of_image ++ x ++ rest) (flat_map-append segment_bytes front back)
    ∙ ap (λ (x : List ℕ). x ++ rest)
    (sym (append_assoc start_of_image (flat_map segment_bytes front) (flat_map segment_bytes back)))
    ∙ append_assoc (start_of_image ++ flat_map segment_bytes front) (flat_map segment_bytes back) rest

-- more segments put in there
pub put_between : (base : List ℕ) (front new back : List Segment) (rest : List ℕ)
    → HasSegments base (front ++ back) rest → AllByRecursion IsSegment new
    → HasSegments (put_in (place_after front) (flat_map segment_bytes new) base) (front ++ (new ++ back)) rest
put_between base front new back rest h legal =
    let f : List ℕ = start_of_image ++ flat_map segment_bytes front in
    let r : List ℕ = flat_map segment_bytes back ++ rest in
    let n : List ℕ = flat_map segment_bytes new in
    let is : base ≡ f ++ r = split_base base front back rest h in
    let size : length f ≡ place_after front = omega arith in
    let before : take (place_after front) base ≡ f =
    ap (take (place_after front)) is ∙ take_at f r (place_after front) size in
    let behind : drop (place_after front) base ≡ r =
    ap (drop (place_after front)) is ∙ drop_at f r (place_after front) size in
    let whole : start_of_image ++ flat_map segment_bytes (front ++ (new ++ back)) ++ rest ≡ f ++ (n ++ r) =
    ap (λ (x : List ℕ). start_of_image ++ x ++ rest)
    (flat_map-append segment_bytes front (new ++ back) ∙ ap (λ (x : List ℕ). flat_map segment_bytes front ++ x) (flat_map-append segment_bytes new back))
    ∙ ap (λ (x : List ℕ). x ++ rest)
    (sym (append_assoc start_of_image (flat_map segment_bytes front) (n ++ flat_map segment_bytes back)))
    ∙ append_assoc f (n ++ flat_map segment_bytes back) rest ∙ ap (λ (x : List ℕ). f ++ x) (append_assoc n (flat_map segment_bytes back) rest) in
    record {
      bytes =
          ap (λ (x : List ℕ). x ++ (n ++ drop (place_after front) base)) before
          ∙ ap (λ (x : List ℕ). f ++ (n ++ x)) behind ∙ sym whole;
      each =
          each_append IsSegment front (new ++ back) (each_front IsSegment front back h.each)
          (each_append IsSegment new back legal (each_back IsSegment front back h.each));
    }

-- the place lies in the base
pub place_inside : (base : List ℕ) (segments : List Segment) (rest : List ℕ) → HasSegments base segments rest
    → insert_place segments ≤ length base
place_inside base segments rest h =
    let split : flat_map segment_bytes segments ≡ flat_map segment_bytes (leading_app0 segments) ++ flat_map segment_bytes (behind_app0 segments) =
    ap (flat_map segment_bytes) (sym (app0_split segments)) ∙ flat_map-append segment_bytes (leading_app0 segments) (behind_app0 segments) in
    let size : length base ≡ suc (suc (length (flat_map segment_bytes segments))) + length rest =
    ap length h.bytes ∙ length-append (start_of_image ++ flat_map segment_bytes segments) rest in
    omega
    (arith, ap length split, size, length-append (flat_map segment_bytes (leading_app0 segments)) (flat_map segment_bytes (behind_app0 segments)))

-- ---- lengths, and the way back

-- how long a file is then
pub put_len : (place : ℕ) (piece base : List ℕ) → length (put_in place piece base) ≡ length base + length piece
put_len place piece base =
    let whole : length (take place base) + length (drop place base) ≡ length base =
    sym (length-append (take place base) (drop place base)) ∙ ap length (take-append-drop place base) in
    omega
    (arith, whole, length-append (take place base) (piece ++ drop place base), length-append piece (drop place base))

-- without the piece the base is back
pub put_taken : (start : ℕ) (piece base : List ℕ) → start ≤ length base
    → taken_out start (length piece) (put_in start piece base) ≡ base
put_taken start piece base le =
    let front : List ℕ = take start base in
    let n : length front ≡ start = length-take-le start base le in
    let both : length (front ++ piece) ≡ start + length piece =
    length-append front piece ∙ ap (λ k. k + length piece) n in
    ap (λ (x : List ℕ). x ++ drop (start + length piece) (front ++ (piece ++ drop start base)))
    (take_at front (piece ++ drop start base) start n)
    ∙ ap (λ (x : List ℕ). front ++ drop (start + length piece) x) (sym (append_assoc front piece (drop start base)))
    ∙ ap (λ (x : List ℕ). front ++ x) (drop_at (front ++ piece) (drop start base) (start + length piece) both)
    ∙ take-append-drop start base
