-- Each file comes to something.
use Rattle.std.proofs.Common.{◌≡◌, ◌≢◌, ℕ, zero, suc, ◌+◌, ◌-◌, ◌*◌, ◌^◌, ◌<◌, ◌≤◌, ◌⊎◌, inl, inr, ⊎_elim}
use Rattle.std.proofs.Common.{Bool, ◌&&◌, ◌||◌, true, false, cond, List, [], ◌∷◌, ◌++◌, length, get_or, take, drop, replicate}
use Rattle.std.proofs.Common.{Option, Some, None, IfSome, refl, sym, ap, ◌∙◌, subst, append_assoc, arith, eqb, ltb, lit<, length-append}
use Rattle.std.proofs.lemmas.List.{take-append-drop, length-take-le}
use Rattle.std.proofs.lemmas.List.Elements.{recursion_from_All}
use Rattle.std.proofs.lemmas.Bool.{cases_lt, cases_eq}
use Rattle.std.specs.List.{All, AllByRecursion}
use Rattle.std.specs.Int.{w16, to_be_bytes}
use borrow.Author.Tests.{ltb-false, lt-ltb}
use Rattle.c2_base.specs.declared.limits.TheConstants.{MAX_STORE_LEN, FILE_LEN_LIMIT}
use Rattle.c2_base.specs.declared.media.MediaError.{MediaError}
use Rattle.c2_base.specs.declared.media.MediaError.TheVariants.{NotMedia, FileTooLarge, BadPacket, StoreTooLarge, ReadFault, NoMemory}
use Rattle.c2_spec.specs.Located.{Located, absent, here, refusal}
use Rattle.c2_spec.specs.Jpeg.Segments.{Segment, IsSegment, EndsSegments, HasSegments, MarkerFault, nothing_left, no_marker, fill_alone, bad_marker, no_length, short_length, cut_short, place_after, marker_bytes, segment_bytes, after_marker, is_alone, is_segment_marker}
use Rattle.c2_spec.specs.Jpeg.Packets.{Packet, packet_in, is_packet, is_store_start, is_stray, stated_length}
use Rattle.c2_spec.specs.Jpeg.Store.{NoneBegins, PacketFault, bad_first, not_next, second_store, stray_packet, at_marker, at_segment, at_end, FirstJpegFault, too_large, not_media, segment, IsLocated, first_packet_fault}
use Rattle.c2_jpegseg_segments.specs.Causes.{OrJpegFault}
use Rattle.c2_jpegseg_segments.specs.Runs.{Collected, goes_on}
use Rattle.c2_jpegseg_segments.specs.Walks.{IsRunOf, IsState, Walks}
use Rattle.c2_jpegseg_segments.proofs.Markers.{spelled_alone, spelled_sized, two_bytes}
use Rattle.c2_jpegseg_segments.proofs.Reading.{marker_shape}
use Rattle.c2_jpegseg_segments.proofs.SegmentLists.{begins-push}
use Rattle.c2_jpegseg_segments.proofs.Starts.{too_short, begun_is}
use Rattle.c2_jpegseg_segments.proofs.Outside.{refusal_is}
use Rattle.c2_jpegseg_segments.proofs.PacketRuns.{no-packet-next, other-packet-next}
use Rattle.c2_jpegseg_segments.proofs.Steps.{no-fault, part-in, started, continued, passed, store-in}
use Rattle.c2_lemmas.proofs.Bools.{and_not_true}
use Rattle.c2_lemmas.proofs.Each.{each_back, each_push}

-- each is a byte
abbrev pub Bytes : List ℕ → Type 0
Bytes xs = AllByRecursion (λ b. b < 256) xs

-- the fill before a list of bytes, and what follows it
data Filled (rest : List ℕ) : Type 0 where
  fill_only : (fill : ℕ) → rest ≡ replicate fill 255 → Filled rest
  fill_then : (fill m : ℕ) (more : List ℕ) → rest ≡ replicate fill 255 ++ m ∷ more → m ≢ 255 → m < 256 → Bytes more
      → Filled rest

-- each list of bytes begins so
filled : (rest : List ℕ) → Bytes rest → Filled rest
filled [] h = fill_only 0 refl
filled (x ∷ xs) h = ⊎_elim (λ same. extend same (filled xs h.1)) (λ other. fill_then 0 x xs refl other h.0 h.1) (cases_eq x 255)
  where
    extend : x ≡ 255 → Filled xs → Filled (x ∷ xs)
    extend same (fill_only fill shape) =
        fill_only (suc fill) (ap (λ y. y ∷ xs) same ∙ ap (λ (ys : List ℕ). 255 ∷ ys) shape)
    extend same (fill_then fill m more shape other low bytes) =
        fill_then (suc fill) m more (ap (λ y. y ∷ xs) same ∙ ap (λ (ys : List ℕ). 255 ∷ ys) shape) other low bytes

-- with what the rest of a file begins: the end of the segments, a fault, or a segment
pub data Front (p : ℕ) (rest : List ℕ) : Type 0 where
  stops : EndsSegments rest → Front p rest
  breaks : (e : MediaError) → MarkerFault p rest e → Front p rest
  goes : (s : Segment) (more : List ℕ) → IsSegment s → rest ≡ segment_bytes s ++ more → Front p rest

-- after a marker with a length
sized_front : (p : ℕ) (rest : List ℕ) (fill m : ℕ) (more : List ℕ) → rest ≡ marker_bytes fill m ++ more
    → is_segment_marker m ≡ true → is_alone m ≡ false → Bytes more → Front p rest
sized_front p rest fill m [] shape marker sized h =
    breaks _ (no_length fill m [] shape (and_not_true _ _ marker sized) (lit< tt))
sized_front p rest fill m (a ∷ []) shape marker sized h =
    breaks _ (no_length fill m (a ∷ []) shape (and_not_true _ _ marker sized) (lit< tt))
sized_front p rest fill m (a ∷ b ∷ more) shape marker sized h =
    ⊎_elim (λ short. breaks _ (short_length fill m a b more shape (and_not_true _ _ marker sized) short))
    (λ least. ⊎_elim (λ cut. breaks _ (cut_short fill m a b more shape (and_not_true _ _ marker sized) least cut)) (λ inside. whole least inside) (cases_lt (length more + 2) (a * 256 + b)))
    (cases_lt (a * 256 + b) 2)
  where
    count : ℕ
    count = a * 256 + b - 2

    s : Segment
    s = record { fill = fill; marker = m; payload = take count more }

    whole : 2 ≤ a * 256 + b → a * 256 + b ≤ length more + 2 → Front p rest
    whole least inside =
        let size : length (take count more) ≡ count = length-take-le count more (omega arith) in
        let value : length (take count more) + 2 ≡ a * 256 + b = omega (arith, size) in
        goes s (drop count more)
        (record { marker = marker; alone = λ alone. cc; fits = omega (arith, value, h.0, h.1.0) })
        (shape
        ∙ ap (λ (x : List ℕ). marker_bytes fill m ++ a ∷ b ∷ x) (sym (take-append-drop count more))
        ∙ ap (λ (x : List ℕ). marker_bytes fill m ++ (x ++ (take count more ++ drop count more)))
        (sym (two_bytes a b (length (take count more) + 2) h.0 h.1.0 value))
        ∙ ap (λ (x : List ℕ). marker_bytes fill m ++ x)
        (sym (append_assoc (to_be_bytes w16 (length (take count more) + 2)) (take count more) (drop count more)))
        ∙ sym
        (append_assoc (marker_bytes fill m) (to_be_bytes w16 (length (take count more) + 2) ++ take count more) (drop count more))
        ∙ ap (λ (x : List ℕ). x ++ drop count more) (sym (spelled_sized s sized)))

-- after a marker of a segment
segment_front : (p : ℕ) (rest : List ℕ) (fill m : ℕ) (more : List ℕ) → rest ≡ marker_bytes fill m ++ more
    → is_segment_marker m ≡ true → Bytes more → Front p rest
segment_front p rest fill m more shape marker h = go (is_alone m) refl
  where
    go : (b : Bool) → is_alone m ≡ b → Front p rest
    go true alone = goes (record { fill = fill; marker = m; payload = [] }) more (record { marker = marker; alone = λ _. refl; fits = lit< tt })
        (shape ∙ ap (λ (x : List ℕ). x ++ more) (sym (spelled_alone (record { fill = fill; marker = m; payload = [] }) alone)))
    go false sized = sized_front p rest fill m more shape marker sized h

-- a marker that is none of the others begins a segment
own_marker : (m : ℕ) → m ≢ 0 → m < 255 → (m < 0xD8) ⊎ (0xDA < m) → is_segment_marker m ≡ true
own_marker m some high side =
    ap (λ t. (t && ltb m 255) && (ltb m 0xD8 || ltb 0xDA m)) (lt-ltb 0 m (omega arith))
    ∙ ap (λ t. t && (ltb m 0xD8 || ltb 0xDA m)) (lt-ltb m 255 high)
    ∙ ⊎_elim (λ small. ap (λ t. t || ltb 0xDA m) (lt-ltb m 0xD8 small))
    (λ large. ap (λ t. ltb m 0xD8 || t) (lt-ltb 0xDA m large) ∙ or_true (ltb m 0xD8)) side
  where
    or_true : (t : Bool) → (t || true) ≡ true
    or_true true = refl
    or_true false = refl

-- after fill and a marker
marker_front : (p : ℕ) (rest : List ℕ) (fill m : ℕ) (more : List ℕ) → rest ≡ marker_bytes fill m ++ more → m ≢ 255
    → m < 256 → Bytes more → Front p rest
marker_front p rest fill m more shape other low h =
    ⊎_elim (λ zeroed. breaks _ (bad_marker fill m more shape (inl zeroed))) (λ some.
    ⊎_elim (λ start. breaks _ (bad_marker fill m more shape (inr start))) (λ no_start.
    ⊎_elim (λ last. stops (record { fill = fill; marker = m; more = more; bytes = shape; ends = inl last })) (λ no_last.
    ⊎_elim (λ scan. stops (record { fill = fill; marker = m; more = more; bytes = shape; ends = inr scan })) (λ no_scan.
    segment_front p rest fill m more shape (own_marker m some (omega arith) (side no_start no_last no_scan)) h)
    (cases_eq m 0xDA)) (cases_eq m 0xD9)) (cases_eq m 0xD8)) (cases_eq m 0)
  where
    side : m ≢ 0xD8 → m ≢ 0xD9 → m ≢ 0xDA → (m < 0xD8) ⊎ (0xDA < m)
    side a b c = ⊎_elim (λ small. inl small) (λ large. inr (omega (arith, large, a, b, c))) (cases_lt m 0xD8)

-- each rest of a file begins so
pub front_of : (p : ℕ) (rest : List ℕ) → Bytes rest → Front p rest
front_of p rest h = go (filled rest h)
  where
    go : Filled rest → Front p rest
    go (fill_only zero shape) = breaks _ (nothing_left shape)
    go (fill_only (suc fill) shape) = let n : suc fill ≡ fill + 1 = omega arith in breaks _ (fill_alone fill (shape ∙ ap (λ k. replicate k 255) n))
    go (fill_then zero m more shape other low bytes) = breaks _ (no_marker m more shape other)
    go (fill_then (suc fill) m more shape other low bytes) =
        marker_front p rest fill m more (shape ∙ sym (marker_shape fill m more)) other low bytes

-- a fault of the segments says something of the file
abbrev Tells : Option MediaError → Type 0
Tells None = Unit {0}
Tells (Some ReadFault) = ⊥
Tells (Some NoMemory) = ⊥
Tells (Some _) = Unit {0}

-- so do the tests on the first packet of a store
tells_three : (a b c : Bool) (p n : ℕ)
    → Tells (cond a (Some (BadPacket p)) (cond b (Some (StoreTooLarge n)) (cond c (Some (BadPacket p)) None)))
tells_three true b c p n = tt
tells_three false true c p n = tt
tells_three false false true p n = tt
tells_three false false false p n = tt

-- (the same, by their name)
tells_first : (p : ℕ) (q : Packet) → Tells (first_packet_fault p q)
unfolding first_packet_fault
tells_first p q =
    tells_three (ltb (stated_length q.header) (length q.header)) (ltb MAX_STORE_LEN (stated_length q.header))
    (ltb (stated_length q.header) (length q.header + length q.body)) p (stated_length q.header)

-- the fault of a segment
tells_packet : (before : List Segment) (s : Segment) (e : MediaError) → PacketFault before s e → Tells (Some e)
tells_packet before s _ (bad_first e _ _ fails) = subst Tells fails (tells_first (place_after before) (packet_in s))
tells_packet before s _ (not_next _ _ _ _) = tt
tells_packet before s _ (second_store _ _ _ _ _) = tt
tells_packet before s _ (stray_packet _ _ _ _ _) = tt

-- and the fault of a marker and its length
tells_marker : (p : ℕ) (rest : List ℕ) (e : MediaError) → MarkerFault p rest e → Tells (Some e)
tells_marker p rest _ (nothing_left _) = tt
tells_marker p rest _ (no_marker _ _ _ _) = tt
tells_marker p rest _ (fill_alone _ _) = tt
tells_marker p rest _ (bad_marker _ _ _ _ _) = tt
tells_marker p rest _ (no_length _ _ _ _ _ _) = tt
tells_marker p rest _ (short_length _ _ _ _ _ _ _ _) = tt
tells_marker p rest _ (cut_short _ _ _ _ _ _ _ _ _) = tt

-- what a file comes to
abbrev Outcome : List ℕ → Type 0
Outcome file = (what : Located) × IsLocated file what

-- a claim holds, or the error is from outside
inside_of : (e : MediaError) (claim : Type 0) → claim → OrJpegFault e claim
inside_of ReadFault claim h = tt
inside_of NoMemory claim h = tt
inside_of _ claim h = h

-- a fault of the file is a refusal
no_silence : (e : MediaError) → Tells (Some e) → refusal e ≡ None → ⊥
no_silence ReadFault t h = t
no_silence NoMemory t h = t
no_silence _ t h = cc (h)

-- a file with a first fault is refused
refusing : (file : List ℕ) (e : MediaError) → Tells (Some e) → FirstJpegFault file e → Outcome file
refusing file e tells fault = go (refusal e) refl (refusal_is file e (inside_of e (FirstJpegFault file e) fault))
  where
    go : (x : Option Located) → refusal e ≡ x → IfSome x (IsLocated file) → Outcome file
    go None is h = absurd (no_silence e tells is)
    go (Some what) is h = (what, h)

-- the state after one more segment, or the segment's fault
data Onward (segments : List Segment) (s : Segment) : Type 0 where
  goes_on_to : (run : Option Collected) → IsState (segments ++ s ∷ []) run → Onward segments s
  fails_with : (fault : MediaError) → PacketFault segments s fault → Onward segments s

-- a value is not none
not_some : (e : MediaError) → Some e ≡ None → ⊥
not_some e h = cc

-- a first packet that passes
first_fits : (p : ℕ) (q : Packet) → first_packet_fault p q ≡ None
    → (length q.header + length q.body ≤ stated_length q.header) × (stated_length q.header ≤ MAX_STORE_LEN)
unfolding first_packet_fault
first_fits p q = go (ltb (stated_length q.header) (length q.header)) (ltb MAX_STORE_LEN (stated_length q.header)) (ltb (stated_length q.header) (length q.header + length q.body)) refl refl refl
  where
    go : (a b c : Bool) → ltb (stated_length q.header) (length q.header) ≡ a
        → ltb MAX_STORE_LEN (stated_length q.header) ≡ b
        → ltb (stated_length q.header) (length q.header + length q.body) ≡ c
        → cond a (Some (BadPacket p)) (cond b (Some (StoreTooLarge (stated_length q.header))) (cond c (Some (BadPacket p)) None)) ≡ None
        → (length q.header + length q.body ≤ stated_length q.header) × (stated_length q.header ≤ MAX_STORE_LEN)
    go true b c x y z e = absurd (not_some _ e)
    go false true c x y z e = absurd (not_some _ e)
    go false false true x y z e = absurd (not_some _ e)
    go false false false x y z e = (ltb-false _ _ z, ltb-false _ _ y)

-- where no store began
onward_none : (segments : List Segment) (s : Segment) → NoneBegins segments → Onward segments s
onward_none segments s none = go (is_store_start s) refl
  where
    q : Packet
    q = packet_in s

    r : Collected
    r =
        record
        { start = place_after segments; end = place_after (segments ++ s ∷ []); en = q.en; header = q.header; count = 1; total = stated_length q.header; store = q.header ++ q.body }

    test : (x : Option MediaError) → is_store_start s ≡ true → first_packet_fault (place_after segments) q ≡ x
        → Onward segments s
    test (Some fault) starts is = fails_with fault (bad_first fault none starts is)
    test None starts is =
        let fits = first_fits (place_after segments) q is in
        let size : length (q.header ++ q.body) ≡ length q.header + length q.body = length-append q.header q.body in
        goes_on_to (Some r) (started segments s (place_after segments) (place_after (segments ++ s ∷ [])) r none starts
        (record { from = refl; to = refl; en = refl; header = refl; count = refl; total = refl; bytes = refl; fits = omega (arith, size, fits.0); small = fits.1 }) refl refl)

    go : (b : Bool) → is_store_start s ≡ b → Onward segments s
    go false other = goes_on_to None (each_push (λ t. is_store_start t ≡ false) segments s none other)
    go true starts = test (first_packet_fault (place_after segments) q) starts refl

-- where a store is open
onward_open : (segments : List Segment) (s : Segment) (r : Collected) → IsRunOf segments r → length r.store < r.total
    → Onward segments s
onward_open segments s r h short = go (is_packet s) (goes_on r (packet_in s)) refl refl
  where
    new : Collected
    new =
        record
        { start = r.start; end = place_after (segments ++ s ∷ []); en = r.en; header = r.header; count = r.count + 1; total = r.total; store = r.store ++ (packet_in s).body }

    go : (a b : Bool) → is_packet s ≡ a → goes_on r (packet_in s) ≡ b → Onward segments s
    go false b none on = fails_with _ (not_next _ _ (part-in segments r h short) (no-packet-next segments s r h none))
    go true false packet other =
        fails_with _ (not_next _ _ (part-in segments r h short) (other-packet-next segments s r h other))
    go true true packet on = goes_on_to (Some new) (continued segments s (place_after (segments ++ s ∷ [])) r new h short packet on
        (record { from = refl; to = refl; en = refl; header = refl; count = refl; total = refl; bytes = refl }) refl)

-- where a store is whole
onward_whole : (segments : List Segment) (s : Segment) (r : Collected) → IsRunOf segments r → r.total ≤ length r.store
    → Onward segments s
onward_whole segments s r h whole = go (is_store_start s) (is_stray r.en s) refl refl
  where
    go : (a b : Bool) → is_store_start s ≡ a → is_stray r.en s ≡ b → Onward segments s
    go true b starts other = fails_with _ (second_store _ _ _ (store-in segments r h whole) starts)
    go false true starts stray =
        fails_with _ (stray_packet _ _ _ (store-in segments r h whole) (ap (λ en. is_stray en s) (sym h.en) ∙ stray))
    go false false starts other = goes_on_to (Some r) (passed segments s r h whole starts other)

-- in whichever state the segments are
onward : (segments : List Segment) (s : Segment) (run : Option Collected) → IsState segments run → Onward segments s
onward segments s None h = onward_none segments s h
onward segments s (Some r) h =
    ⊎_elim (λ short. onward_open segments s r h short) (λ whole. onward_whole segments s r h whole)
    (cases_lt (length r.store) r.total)

-- Segments without a fault, and the bytes after them.
record Reached (file : List ℕ) (segments : List Segment) (rest : List ℕ) : Type 0 where
  fits : length file < FILE_LEN_LIMIT
  bytes : Bytes rest
  begins : HasSegments file segments rest
  run : Option Collected
  state : IsState segments run

-- where the segments end
at_the_end : (file : List ℕ) (segments : List Segment) (rest : List ℕ) (run : Option Collected)
    → Reached file segments rest → IsState segments run → EndsSegments rest → Outcome file
at_the_end file segments rest None w state ends =
    (absent, record { fits = w.fits; segments = segments; rest = rest; begins = w.begins; ends = ends; none = state })
at_the_end file segments rest (Some r) w state ends = ⊎_elim
    (λ short. refusing file (BadPacket (place_after segments)) tt
    (segment _ w.fits (record { before = segments; rest = rest; begins = w.begins; passing = no-fault segments (Some r) state; fails = at_end _ _ ends (part-in segments r state short) refl })))
    (λ whole. (here r.start (r.end - r.start) r.store, record { fits = w.fits; segments = segments; rest = rest; begins = w.begins; ends = ends; holds = store-in segments r state whole }))
    (cases_lt (length r.store) r.total)

-- a segment has bytes
pub shorter : (s : Segment) (rest more : List ℕ) → rest ≡ segment_bytes s ++ more → length more < length rest
shorter s rest more shape =
    let whole : length rest ≡ length (segment_bytes s) + length more =
    ap length shape ∙ length-append (segment_bytes s) more in
    let parts : length (segment_bytes s) ≡ length (marker_bytes s.fill s.marker) + length (after_marker s) =
    length-append (marker_bytes s.fill s.marker) (after_marker s) in
    let one : length (marker_bytes s.fill s.marker) ≡ length (replicate (s.fill + 1) 255) + 1 =
    length-append (replicate (s.fill + 1) 255) (s.marker ∷ []) in
    omega (arith, whole, parts, one)

-- one segment
next : (file : List ℕ) (segments : List Segment) (rest : List ℕ) → Reached file segments rest
    → ((further : List Segment) (more : List ℕ) → length more < length rest → Reached file further more → Outcome file)
    → Outcome file
next file segments rest w onwards = go (front_of (place_after segments) rest w.bytes)
  where
    test : (s : Segment) (more : List ℕ) → IsSegment s → rest ≡ segment_bytes s ++ more → Onward segments s
        → Outcome file
    test s more legal shape (fails_with e fails) =
        refusing file e (tells_packet segments s e fails)
        (segment e w.fits (record { before = segments; rest = rest; begins = w.begins; passing = no-fault segments w.run w.state; fails = at_segment s more legal shape fails }))
    test s more legal shape (goes_on_to run state) =
        onwards (segments ++ s ∷ []) more (shorter s rest more shape) (record {
          fits = w.fits;
          bytes = each_back (λ b. b < 256) (segment_bytes s) more (subst Bytes shape w.bytes);
          begins = begins-push file segments s rest more w.begins legal shape;
          run = run;
          state = state;
        })

    go : Front (place_after segments) rest → Outcome file
    go (stops ends) = at_the_end file segments rest w.run w w.state ends
    go (breaks e fault) =
        refusing file e (tells_marker _ _ _ fault)
        (segment e w.fits (record { before = segments; rest = rest; begins = w.begins; passing = no-fault segments w.run w.state; fails = at_marker fault }))
    go (goes s more legal shape) = test s more legal shape (onward segments s w.run w.state)

-- and all the others
walk : (n : ℕ) (file : List ℕ) (segments : List Segment) (rest : List ℕ) → length rest < n → Reached file segments rest
    → Outcome file
walk zero file segments rest less w = absurd (omega arith)
walk (suc n) file segments rest less w =
    next file segments rest w (λ further more shorter onward. walk n file further more (omega arith) onward)

-- the first two bytes
begun : (file : List ℕ) → Bytes file → length file < FILE_LEN_LIMIT → 2 ≤ length file → Outcome file
begun file bytes fits two = go (eqb (get_or file 0 0) 255 && eqb (get_or file 1 0) 216) refl
  where
    go : (t : Bool) → t ≡ (eqb (get_or file 0 0) 255 && eqb (get_or file 1 0) 216) → Outcome file
    go true is =
        let w : Walks file 2 None = begun_is file (get_or file 0 0) (get_or file 1 0) true two refl refl is in
        walk (length (drop 2 file) + 1) file w.segments (drop 2 file) (omega arith) (record {
          fits = fits;
          bytes =
              each_back (λ b. b < 256) (take 2 file) (drop 2 file) (subst Bytes (sym (take-append-drop 2 file)) bytes);
          begins = w.begins;
          run = None;
          state = w.state;
        })
    go false is =
        refusing file NotMedia tt
        (not_media fits (begun_is file (get_or file 0 0) (get_or file 1 0) false two refl refl is))

-- Each file comes to something.
pub each_located : (file : List ℕ) → All (λ b. b < 2 ^ 8) file → (what : Located) × IsLocated file what
each_located file h = ⊎_elim
    (λ fits. ⊎_elim (λ short. refusing file NotMedia tt (not_media fits (too_short file short))) (λ two. begun file (recursion_from_All (λ b. b < 2 ^ 8) file h) fits two) (cases_lt (length file) 2))
    (λ large. refusing file (FileTooLarge (length file)) tt (too_large large))
    (cases_lt (length file) FILE_LEN_LIMIT)
