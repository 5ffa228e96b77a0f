-- A file has one outcome.
use Rattle.std.proofs.Common.{◌≡◌, ◌≢◌, ℕ, ◌<◌, ◌≤◌, List, [], ◌∷◌, ◌++◌, length, take, Some, refl, sym, ap, ◌∙◌, subst, append_assoc, arith}
use Rattle.std.proofs.lemmas.List.{append-nil, append_cancel_left}
use Rattle.std.specs.List.{AllByRecursion, flat_map}
use Rattle.c2_base.specs.declared.limits.TheConstants.{FILE_LEN_LIMIT}
use Rattle.c2_base.specs.declared.media.MediaError.{MediaError}
use Rattle.c2_base.specs.declared.media.MediaError.TheVariants.{NotMedia, FileTooLarge}
use Rattle.c2_spec.specs.Jpeg.Segments.{Segment, IsSegment, EndsSegments, HasSegments, place_after, segment_bytes, start_of_image}
use Rattle.c2_spec.specs.Jpeg.Packets.{packet_in}
use Rattle.c2_spec.specs.Jpeg.Store.{NoneBegins, HoldsStore, HoldsPart, HaveNoFault, none_begins, one_held, PacketFault, FailsAfter, at_marker, at_segment, at_end, too_large, not_media, segment, IsLocated}
use Rattle.c2_spec.specs.Located.{Located, refused, absent, here}
use Rattle.c2_jpegseg_segments.specs.Findings.{Finding, refusing, lacking, holding, IsFinding, located_of}
use Rattle.c2_jpegseg_segments.proofs.OneStore.{held-none, part-none, held-part, held-same, no-packet-fault, packet-fault-same}
use Rattle.c2_jpegseg_segments.proofs.PacketRuns.{bodies}
use Rattle.c2_jpegseg_segments.proofs.Reading.{ends, fails, finds, read, read-segment, read-end, read-fault}
use Rattle.c2_jpegseg_segments.proofs.Starts.{begins_media}

-- two ways to begin one list of bytes: one goes on where the other stops
pub data Compared (xs ys : List Segment) (r s : List ℕ) : Type 0 where
  first_on : (zs : List Segment) → ys ≡ xs ++ zs → r ≡ flat_map segment_bytes zs ++ s → AllByRecursion IsSegment zs
      → Compared xs ys r s
  second_on : (z : Segment) (zs : List Segment) → xs ≡ ys ++ z ∷ zs → s ≡ flat_map segment_bytes (z ∷ zs) ++ r
      → AllByRecursion IsSegment (z ∷ zs) → Compared xs ys r s

-- one list of bytes begins with one segment
same_front : (x y : Segment) (a b : List ℕ) → IsSegment x → IsSegment y → segment_bytes x ++ a ≡ segment_bytes y ++ b
    → (x ≡ y) × (a ≡ b)
same_front x y a b hx hy e =
    let h : finds x a ≡ finds y b = sym (read-segment 0 x a hx) ∙ ap (read 0) e ∙ read-segment 0 y b hy in
    (cc, cc)

-- each two are of one of these kinds
pub compare : (xs ys : List Segment) (r s : List ℕ) → AllByRecursion IsSegment xs → AllByRecursion IsSegment ys
    → flat_map segment_bytes xs ++ r ≡ flat_map segment_bytes ys ++ s → Compared xs ys r s
compare [] ys r s hx hy e = first_on ys refl e hy
compare (x ∷ xs) [] r s hx hy e = second_on x xs refl (sym e) hx
compare (x ∷ xs) (y ∷ ys) r s hx hy e =
    let one =
    same_front x y (flat_map segment_bytes xs ++ r) (flat_map segment_bytes ys ++ s) hx.0 hy.0
    (sym (append_assoc (segment_bytes x) (flat_map segment_bytes xs) r) ∙ e ∙ append_assoc (segment_bytes y) (flat_map segment_bytes ys) s) in
    extend x y one.0 (compare xs ys r s hx.1 hy.1 one.1)
  where
    extend : (x y : Segment) → x ≡ y → Compared xs ys r s → Compared (x ∷ xs) (y ∷ ys) r s
    extend x y same (first_on zs a b c) =
        first_on zs (ap (λ t. t ∷ ys) (sym same) ∙ ap (λ (ts : List Segment). x ∷ ts) a) b c
    extend x y same (second_on z zs a b c) =
        second_on z zs (ap (λ t. t ∷ xs) same ∙ ap (λ (ts : List Segment). y ∷ ts) a) b c

-- how a file's segments end, and with what outcome
pub data Stops (segments : List Segment) (rest : List ℕ) : Finding → Type 0 where
  fault : {e : MediaError} → FailsAfter segments rest e → Stops segments rest (refusing e)
  none : EndsSegments rest → NoneBegins segments → Stops segments rest lacking
  found : {start len : ℕ} {store : List ℕ} → EndsSegments rest → HoldsStore segments start len store
      → Stops segments rest (holding start len store)

-- segments hold one store
store_same : (segments : List Segment) (s1 l1 s2 l2 : ℕ) (b1 b2 : List ℕ) → HoldsStore segments s1 l1 b1
    → HoldsStore segments s2 l2 b2 → holding s1 l1 b1 ≡ holding s2 l2 b2
store_same segments s1 l1 s2 l2 b1 b2 g h =
    let same = held-same segments segments [] s1 l1 s2 l2 b1 b2 (sym (append-nil segments)) g h in
    let start : s1 ≡ s2 = g.from ∙ ap place_after same.before ∙ sym h.from in
    let len : l1 ≡ l2 =
    g.for ∙ ap (λ f. length (flat_map segment_bytes (f ∷ g.others))) same.first
    ∙ ap (λ (o : List Segment). length (flat_map segment_bytes (h.first ∷ o))) same.others ∙ sym h.for in
    let store : b1 ≡ b2 =
    g.is_run.bytes ∙ ap (λ f. (packet_in f).header ++ bodies (f ∷ g.others)) same.first
    ∙ ap (λ (o : List Segment). (packet_in h.first).header ++ bodies (h.first ∷ o)) same.others
    ∙ sym h.is_run.bytes in
    ap (λ n. holding n l1 b1) start ∙ ap (λ n. holding s2 n b1) len ∙ ap (holding s2 l2) store

-- after the same segments the same test fails
fails_same : (segments : List Segment) (rest : List ℕ) (e f : MediaError) → FailsAfter segments rest e
    → FailsAfter segments rest f → e ≡ f
fails_same segments rest e f (at_marker a) (at_marker b) = let h : fails e ≡ fails f = sym (read-fault (place_after segments) rest e a) ∙ read-fault (place_after segments) rest f b in cc (h)
fails_same segments rest e f (at_marker a) (at_segment s more legal shape test) = let h : fails e ≡ finds s more = sym (read-fault (place_after segments) rest e a) ∙ ap (read (place_after segments)) shape ∙ read-segment (place_after segments) s more legal in cc (h)
fails_same segments rest e f (at_marker a) (at_end _ _ last _ _) = let h : fails e ≡ ends = sym (read-fault (place_after segments) rest e a) ∙ read-end (place_after segments) rest last in cc (h)
fails_same segments rest e f (at_segment s more legal shape test) (at_marker b) = let h : fails f ≡ finds s more = sym (read-fault (place_after segments) rest f b) ∙ ap (read (place_after segments)) shape ∙ read-segment (place_after segments) s more legal in cc (h)
fails_same segments rest e f (at_segment s more legal shape test) (at_segment t others proper form trial) =
    let one = same_front s t more others legal proper (sym shape ∙ form) in
    packet-fault-same segments t e f (subst (λ x. PacketFault segments x e) one.0 test) trial
fails_same segments rest e f (at_segment s more legal shape test) (at_end _ _ last _ _) = let h : finds s more ≡ ends = sym (read-segment (place_after segments) s more legal) ∙ ap (read (place_after segments)) (sym shape) ∙ read-end (place_after segments) rest last in cc (h)
fails_same segments rest e f (at_end _ _ last _ _) (at_marker b) = let h : fails f ≡ ends = sym (read-fault (place_after segments) rest f b) ∙ read-end (place_after segments) rest last in cc (h)
fails_same segments rest e f (at_end _ _ last _ _) (at_segment s more legal shape test) = let h : finds s more ≡ ends = sym (read-segment (place_after segments) s more legal) ∙ ap (read (place_after segments)) (sym shape) ∙ read-end (place_after segments) rest last in cc (h)
fails_same segments rest e f (at_end _ _ _ _ a) (at_end _ _ _ _ b) = a ∙ sym b

-- where the segments end and no store is open, nothing fails
fails_not : (segments : List Segment) (rest : List ℕ) (e : MediaError) → FailsAfter segments rest e → EndsSegments rest
    → ((first : Segment) (others : List Segment) → HoldsPart segments first others → ⊥) → ⊥
fails_not segments rest e (at_marker a) last closed = let h : fails e ≡ ends = sym (read-fault (place_after segments) rest e a) ∙ read-end (place_after segments) rest last in cc (h)
fails_not segments rest e (at_segment s more legal shape test) last closed = let h : finds s more ≡ ends = sym (read-segment (place_after segments) s more legal) ∙ ap (read (place_after segments)) (sym shape) ∙ read-end (place_after segments) rest last in cc (h)
fails_not segments rest e (at_end first others _ part _) last closed = closed first others part

-- no store is open where none began
none_closed : (segments : List Segment) → NoneBegins segments → (first : Segment) (others : List Segment)
    → HoldsPart segments first others → ⊥
none_closed segments clear first others part = part-none segments first others part clear

-- nor where one is held
held_closed : (segments : List Segment) (start len : ℕ) (store : List ℕ) → HoldsStore segments start len store
    → (first : Segment) (others : List Segment) → HoldsPart segments first others → ⊥
held_closed segments start len store held first others part =
    held-part segments segments [] start len store first others (sym (append-nil segments)) held part

-- the same segments and the same rest have one outcome
stops_same : (segments : List Segment) (rest : List ℕ) (o p : Finding) → Stops segments rest o → Stops segments rest p
    → o ≡ p
stops_same segments rest _ _ (fault {e = e} a) (fault {e = f} b) = ap refusing (fails_same segments rest e f a b)
stops_same segments rest _ _ (fault {e = e} a) (none last clear) =
    absurd (fails_not segments rest e a last (none_closed segments clear))
stops_same segments rest _ _ (fault {e = e} a) (found last store) =
    absurd (fails_not segments rest e a last (held_closed segments _ _ _ store))
stops_same segments rest _ _ (none last clear) (fault {e = e} a) =
    absurd (fails_not segments rest e a last (none_closed segments clear))
stops_same segments rest _ _ (none last clear) (none _ _) = refl
stops_same segments rest _ _ (none last clear) (found _ store) = absurd (held-none segments _ _ _ store clear)
stops_same segments rest _ _ (found last store) (fault {e = e} a) =
    absurd (fails_not segments rest e a last (held_closed segments _ _ _ store))
stops_same segments rest _ _ (found _ store) (none _ clear) = absurd (held-none segments _ _ _ store clear)
stops_same segments rest _ _ (found _ a) (found _ b) = store_same segments _ _ _ _ _ _ a b

-- where another segment without a fault stands, nothing stops
stops_not : (xs zs : List Segment) (z : Segment) (rest more : List ℕ) (o : Finding) → Stops xs rest o → IsSegment z
    → rest ≡ segment_bytes z ++ more → HaveNoFault (xs ++ z ∷ zs) → ⊥
stops_not xs zs z rest more _ (fault {e = e} (at_marker a)) legal shape passes = let h : fails e ≡ finds z more = sym (read-fault (place_after xs) rest e a) ∙ ap (read (place_after xs)) shape ∙ read-segment (place_after xs) z more legal in cc (h)
stops_not xs zs z rest more _ (fault {e = e} (at_segment s others proper form test)) legal shape passes =
    let one = same_front s z others more proper legal (sym form ∙ shape) in
    no-packet-fault xs zs z e passes (subst (λ t. PacketFault xs t e) one.0 test)
stops_not xs zs z rest more _ (fault (at_end _ _ last _ _)) legal shape passes = let h : ends ≡ finds z more = sym (read-end 0 rest last) ∙ ap (read 0) shape ∙ read-segment 0 z more legal in cc (h)
stops_not xs zs z rest more _ (none last _) legal shape passes = let h : ends ≡ finds z more = sym (read-end 0 rest last) ∙ ap (read 0) shape ∙ read-segment 0 z more legal in cc (h)
stops_not xs zs z rest more _ (found last _) legal shape passes = let h : ends ≡ finds z more = sym (read-end 0 rest last) ∙ ap (read 0) shape ∙ read-segment 0 z more legal in cc (h)

-- what a file looks like, whichever its outcome is
data Shape (file : List ℕ) : Finding → Type 0 where
  large : FILE_LEN_LIMIT ≤ length file → Shape file (refusing (FileTooLarge (length file)))
  other : length file < FILE_LEN_LIMIT → take 2 file ≢ start_of_image → Shape file (refusing NotMedia)
  walked : {o : Finding} → length file < FILE_LEN_LIMIT → (segments : List Segment) (rest : List ℕ)
      → HasSegments file segments rest → HaveNoFault segments → Stops segments rest o → Shape file o

-- each outcome of a file has such a look
shape_of : (file : List ℕ) (o : Finding) → IsFinding file o → Shape file o
shape_of file (refusing _) (too_large h) = large h
shape_of file (refusing _) (not_media fits h) = other fits h
shape_of file (refusing e) (segment _ fits h) = walked fits h.before h.rest h.begins h.passing (fault h.fails)
shape_of file lacking h = walked h.fits h.segments h.rest h.begins (none_begins h.none) (none h.ends h.none)
shape_of file (holding start len store) h =
    walked h.fits h.segments h.rest h.begins (one_held start len store h.holds) (found h.ends h.holds)

-- segments that end with two outcomes end with one
walks_same : (file : List ℕ) (xs ys : List Segment) (r s : List ℕ) (o p : Finding) → HasSegments file xs r
    → HasSegments file ys s → HaveNoFault xs → HaveNoFault ys → Stops xs r o → Stops ys s p → o ≡ p
walks_same file xs ys r s o p bx by px py sx sy = go (compare xs ys r s bx.each by.each inner)
  where
    outer : start_of_image ++ (flat_map segment_bytes xs ++ r) ≡ start_of_image ++ (flat_map segment_bytes ys ++ s)
    outer =
        sym (bx.bytes ∙ append_assoc start_of_image (flat_map segment_bytes xs) r) ∙ by.bytes
        ∙ append_assoc start_of_image (flat_map segment_bytes ys) s

    inner : flat_map segment_bytes xs ++ r ≡ flat_map segment_bytes ys ++ s
    inner = append_cancel_left start_of_image (flat_map segment_bytes xs ++ r) (flat_map segment_bytes ys ++ s) outer

    go : Compared xs ys r s → o ≡ p
    go (first_on [] same shape legal) =
        stops_same xs r o p sx
        (subst (λ (t : List ℕ). Stops xs t p) (sym shape) (subst (λ (t : List Segment). Stops t s p) (same ∙ append-nil xs) sy))
    go (first_on (z ∷ zs) same shape legal) =
        absurd
        (stops_not xs zs z r (flat_map segment_bytes zs ++ s) o sx legal.0 (shape ∙ append_assoc (segment_bytes z) (flat_map segment_bytes zs) s) (subst HaveNoFault same py))
    go (second_on z zs same shape legal) =
        absurd
        (stops_not ys zs z s (flat_map segment_bytes zs ++ r) p sy legal.0 (shape ∙ append_assoc (segment_bytes z) (flat_map segment_bytes zs) r) (subst HaveNoFault same px))

-- a file with two looks has one outcome
shape_same : (file : List ℕ) (o p : Finding) → Shape file o → Shape file p → o ≡ p
shape_same file _ _ (large a) (large b) = refl
shape_same file _ _ (large a) (other b _) = absurd (omega arith)
shape_same file _ _ (large a) (walked b _ _ _ _ _) = absurd (omega arith)
shape_same file _ _ (other a _) (large b) = absurd (omega arith)
shape_same file _ _ (other _ a) (other _ b) = refl
shape_same file _ _ (other _ a) (walked _ segments rest b _ _) = absurd (a (begins_media file segments rest b))
shape_same file _ _ (walked b _ _ _ _ _) (large a) = absurd (omega arith)
shape_same file _ _ (walked _ segments rest b _ _) (other _ a) = absurd (a (begins_media file segments rest b))
shape_same file o p (walked _ xs r bx px sx) (walked _ ys s by py sy) = walks_same file xs ys r s o p bx by px py sx sy

-- A file has one outcome.
pub one_outcome : (file : List ℕ) (o p : Finding) → IsFinding file o → IsFinding file p → o ≡ p
one_outcome file o p a b = shape_same file o p (shape_of file o a) (shape_of file p b)

-- what a file comes to, with the error itself
finding : (file : List ℕ) (what : Located) → IsLocated file what
    → (o : Finding) × IsFinding file o × (located_of o ≡ Some what)
finding file (refused reason n) h = (refusing h.0, h.1, h.2)
finding file absent h = (lacking, h, refl)
finding file (here start len store) h = (holding start len store, h, refl)

-- equal values under Some
some_same : (v w : Located) → Some v ≡ Some w → v ≡ w
some_same v w e = cc

-- a file comes to one thing
pub one_located : (file : List ℕ) (v w : Located) → IsLocated file v → IsLocated file w → v ≡ w
one_located file v w h k =
    let a = finding file v h in
    let b = finding file w k in
    some_same v w (sym a.2 ∙ ap located_of (one_outcome file a.0 b.0 a.1 b.1) ∙ b.2)
