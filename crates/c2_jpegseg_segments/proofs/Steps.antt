-- How the walk goes from one segment to the next.
use Rattle.std.proofs.Common.{◌≡◌, ℕ, suc, ◌+◌, ◌-◌, ◌<◌, ◌≤◌, ⊎_elim, true, false, List, [], ◌∷◌, ◌++◌, length, drop, map, Option, Some, None, refl, sym, ap, ◌∙◌, subst, append_assoc, arith, length-append}
use Rattle.std.proofs.lemmas.List.{append-nil, length-drop, map-append, flat_map_more, length_push}
use Rattle.std.proofs.lemmas.Bool.{cases_lt}
use Rattle.std.proofs.lemmas.Slice.Eq.{bytes_eq-Decides}
use Rattle.std.specs.List.{flat_map, range_with_len}
use Rattle.c2_base.specs.declared.limits.TheConstants.{FILE_LEN_LIMIT}
use Rattle.c2_base.specs.declared.media.MediaError.{MediaError}
use Rattle.c2_base.specs.declared.media.MediaError.TheVariants.{BadPacket}
use Rattle.c2_spec.specs.Jpeg.Segments.{Segment, place_after, segment_bytes, MarkerFault, EndsSegments}
use Rattle.c2_spec.specs.Jpeg.Packets.{packet_in, is_packet, is_store_start, is_stray, is_first_packet}
use Rattle.c2_spec.specs.Jpeg.Store.{NoneBegins, HoldsStore, HasJpegStore, HasNoJpegStore, HoldsPart, HaveNoFault, none_begins, open_after, one_held, PacketFault, SegmentFault, at_marker, at_segment, at_end}
use Rattle.c2_jpegseg_segments.specs.declared.marker.Extent.{Extent}
use Rattle.c2_jpegseg_segments.specs.Runs.{Collected, goes_on, IsStarted, IsContinued}
use Rattle.c2_jpegseg_segments.specs.Segments.{segment_of, IsExtent}
use Rattle.c2_jpegseg_segments.specs.Walks.{IsRunOf, IsState, Walks}
use Rattle.c2_jpegseg_segments.proofs.SegmentLists.{place-append, begins-push}
use borrow.Author.Tests.{leb-true, eqb-true}
use Rattle.c2_lemmas.proofs.Bools.{both_true}
use Rattle.c2_lemmas.proofs.Each.{each_push}
use Rattle.c2_lemmas.proofs.Numbers.{range_push}

-- the numbers go on
numbers-push : (f : Segment → ℕ) (xs : List Segment) (y : Segment) → map f xs ≡ range_with_len 1 (length xs)
    → f y ≡ length xs + 1 → map f (xs ++ y ∷ []) ≡ range_with_len 1 (length (xs ++ y ∷ []))
numbers-push f xs y numbers next =
    let e : f y ≡ 1 + length xs = omega (arith, next) in
    let n : suc (length xs) ≡ length (xs ++ y ∷ []) = omega (arith, length_push xs y) in
    map-append f xs (y ∷ []) ∙ ap (λ (x : List ℕ). x ++ f y ∷ []) numbers
    ∙ ap (λ k. range_with_len 1 (length xs) ++ k ∷ []) e ∙ sym (range_push 1 (length xs)) ∙ ap (range_with_len 1) n

-- what the test of a store start says
pub start-says : (s : Segment) → is_store_start s ≡ true
    → (is_packet s ≡ true) × ((packet_in s).z ≡ 1) × (24 ≤ length (packet_in s).body)
unfolding is_store_start is_first_packet
start-says s h =
    let outer = both_true _ _ h in
    let named = both_true _ _ (both_true _ _ outer.1).0 in
    let sized = both_true _ _ named.0 in
    let first = both_true _ _ sized.0 in
    (outer.0, eqb-true _ _ first.0, leb-true _ _ sized.1)

-- the first packet
pub started : (segments : List Segment) (s : Segment) (at end : ℕ) (r : Collected) → NoneBegins segments
    → is_store_start s ≡ true → IsStarted at end (packet_in s) r
    → at ≡ place_after segments → end ≡ place_after (segments ++ s ∷ []) → IsRunOf (segments ++ s ∷ []) r
started segments s at end r none starts k from to =
    let says = start-says s starts in
    record {
      before = segments;
      first = s;
      others = [];
      after = [];
      split = refl;
      starts = starts;
      is_run = record {
        packets = (says.0, tt);
        numbers = ap (λ n. n ∷ []) says.1;
        same = tt;
        bodies = (omega (arith, says.2), tt);
        bytes = k.bytes ∙ ap (λ (x : List ℕ). (packet_in s).header ++ x) (sym (append-nil (packet_in s).body));
      };
      fits = k.fits;
      total = k.total;
      small = k.small;
      none_before = none;
      none_after = tt;
      no_stray = tt;
      closed = λ _. refl;
      from = k.from ∙ from;
      to = k.to ∙ to;
      en = k.en;
      header = k.header;
      count = k.count;
    }

-- the next packet
pub continued : (segments : List Segment) (s : Segment) (end : ℕ) (r new : Collected) → IsRunOf segments r
    → length r.store < r.total → is_packet s ≡ true
    → goes_on r (packet_in s) ≡ true → IsContinued end (packet_in s) r new
    → end ≡ place_after (segments ++ s ∷ []) → IsRunOf (segments ++ s ∷ []) new
unfolding goes_on
continued segments s end r new h short packet goes k to =
    let last = both_true _ _ goes in
    let some = both_true _ _ last.0 in
    let numbered = both_true _ _ some.0 in
    let headed = both_true _ _ numbered.0 in
    let most : length (packet_in s).body ≤ r.total - length r.store = leb-true _ _ last.1 in
    let least : 1 ≤ length (packet_in s).body = leb-true _ _ some.1 in
    let number : (packet_in s).z ≡ r.count + 1 = eqb-true _ _ numbered.1 in
    let en : (packet_in s).en ≡ r.en = eqb-true _ _ headed.0 in
    let header : (packet_in s).header ≡ r.header = (bytes_eq-Decides (packet_in s).header r.header).0 headed.1 in
    let front : segments ≡ h.before ++ (h.first ∷ h.others) =
    h.split ∙ ap (λ (x : List Segment). h.before ++ (h.first ∷ h.others ++ x)) (h.closed short)
    ∙ ap (λ (x : List Segment). h.before ++ x) (append-nil (h.first ∷ h.others)) in
    let whole : segments ++ s ∷ [] ≡ h.before ++ (h.first ∷ (h.others ++ s ∷ [])) =
    ap (λ (x : List Segment). x ++ s ∷ []) front ∙ append_assoc h.before (h.first ∷ h.others) (s ∷ []) in
    let size : length (r.store ++ (packet_in s).body) ≡ length r.store + length (packet_in s).body =
    length-append r.store (packet_in s).body in
    let counted : length (h.first ∷ (h.others ++ s ∷ [])) ≡ length (h.first ∷ h.others) + 1 =
    length_push (h.first ∷ h.others) s in
    record {
      before = h.before;
      first = h.first;
      others = h.others ++ s ∷ [];
      after = [];
      split = whole ∙ ap (λ (x : List Segment). h.before ++ x) (sym (append-nil (h.first ∷ (h.others ++ s ∷ []))));
      starts = h.starts;
      is_run = record {
        packets = (h.is_run.packets.0, each_push (λ t. is_packet t ≡ true) h.others s h.is_run.packets.1 packet);
        numbers =
            numbers-push (λ t. (packet_in t).z) (h.first ∷ h.others) s h.is_run.numbers
            (omega (arith, number, h.count));
        same =
            each_push
            (λ t. ((packet_in t).en ≡ (packet_in h.first).en) × ((packet_in t).header ≡ (packet_in h.first).header))
            h.others s h.is_run.same (en ∙ h.en, header ∙ h.header);
        bodies =
            (h.is_run.bodies.0, each_push (λ t. 0 < length (packet_in t).body) h.others s h.is_run.bodies.1 (omega (arith, least)));
        bytes =
            k.bytes ∙ ap (λ (x : List ℕ). x ++ (packet_in s).body) h.is_run.bytes
            ∙ flat_map_more (λ t. (packet_in t).body) (packet_in h.first).header (h.first ∷ h.others) s;
      };
      fits = omega (arith, ap length k.bytes, size, most, short, k.total, h.fits);
      total = k.total ∙ h.total;
      small = omega (arith, k.total, h.small);
      none_before = h.none_before;
      none_after = tt;
      no_stray = tt;
      closed = λ _. refl;
      from = k.from ∙ h.from;
      to = k.to ∙ to ∙ ap place_after whole;
      en = k.en ∙ h.en;
      header = k.header ∙ h.header;
      count = omega (arith, k.count, h.count, counted);
    }

-- a segment after a whole run
pub passed : (segments : List Segment) (s : Segment) (r : Collected) → IsRunOf segments r → r.total ≤ length r.store
    → is_store_start s ≡ false → is_stray r.en s ≡ false → IsRunOf (segments ++ s ∷ []) r
passed segments s r h whole start stray = record {
  before = h.before;
  first = h.first;
  others = h.others;
  after = h.after ++ s ∷ [];
  split =
      ap (λ (x : List Segment). x ++ s ∷ []) h.split ∙ append_assoc h.before (h.first ∷ h.others ++ h.after) (s ∷ [])
      ∙ ap (λ (x : List Segment). h.before ++ x) (append_assoc (h.first ∷ h.others) h.after (s ∷ []));
  starts = h.starts;
  is_run = h.is_run;
  fits = h.fits;
  total = h.total;
  small = h.small;
  none_before = h.none_before;
  none_after = each_push (λ t. is_store_start t ≡ false) h.after s h.none_after start;
  no_stray =
      each_push (λ t. is_stray (packet_in h.first).en t ≡ false) h.after s h.no_stray
      (ap (λ n. is_stray n s) (sym h.en) ∙ stray);
  closed = λ short. absurd (omega arith);
  from = h.from;
  to = h.to;
  en = h.en;
  header = h.header;
  count = h.count;
}

-- where the next segment begins
pub end-place : (file : List ℕ) (at : ℕ) (e : Extent) (segments : List Segment) → at ≡ place_after segments
    → (x : IsExtent file at e) → e.end ≡ place_after (segments ++ segment_of x.fill file e ∷ [])
end-place file at e segments place x =
    let s : Segment = segment_of x.fill file e in
    let sum : place_after (segments ++ s ∷ []) ≡ place_after segments + length (flat_map segment_bytes (s ∷ [])) =
    place-append segments (s ∷ []) in
    let one : length (flat_map segment_bytes (s ∷ [])) ≡ length (segment_bytes s) =
    ap length (append-nil (segment_bytes s)) in
    let sizes : length (drop at file) ≡ length (segment_bytes s) + length (drop e.end file) =
    ap length x.bytes ∙ length-append (segment_bytes s) (drop e.end file) in
    omega (arith, sum, one, sizes, place, x.later, x.inside, length-drop at file, length-drop e.end file)

-- the walk goes on
pub advance : (file : List ℕ) (at : ℕ) (run new : Option Collected) (e : Extent) (w : Walks file at run) (x : IsExtent file at e)
    → IsState (w.segments ++ segment_of x.fill file e ∷ []) new → Walks file e.end new
advance file at run new e w x state = record {
  segments = w.segments ++ segment_of x.fill file e ∷ [];
  begins =
      begins-push file w.segments (segment_of x.fill file e) (drop at file) (drop e.end file) w.begins x.legal x.bytes;
  place = end-place file at e w.segments w.place x;
  inside = x.inside;
  state = state;
}

-- the walk ends
pub no-store : (file : List ℕ) (at : ℕ) → length file < FILE_LEN_LIMIT → Walks file at None
    → EndsSegments (drop at file) → HasNoJpegStore file
no-store file at fits w ends =
    record { fits = fits; segments = w.segments; rest = drop at file; begins = w.begins; ends = ends; none = w.state }

-- a whole run is a store
abbrev pub store-in : (segments : List Segment) (r : Collected) → IsRunOf segments r → r.total ≤ length r.store
    → HoldsStore segments r.start (r.end - r.start) r.store
store-in segments r h whole =
    let sum : place_after (h.before ++ (h.first ∷ h.others)) ≡ place_after h.before + length (flat_map segment_bytes (h.first ∷ h.others)) =
    place-append h.before (h.first ∷ h.others) in
    record {
      before = h.before;
      first = h.first;
      others = h.others;
      after = h.after;
      split = h.split;
      starts = h.starts;
      is_run = h.is_run;
      whole = omega (arith, h.fits, whole, h.total);
      small = omega (arith, h.fits, h.small);
      none_before = h.none_before;
      none_after = h.none_after;
      no_stray = h.no_stray;
      from = h.from;
      for = omega (arith, sum, h.from, h.to);
    }

-- with a whole run, the file has this store
pub store-here : (file : List ℕ) (at : ℕ) (r : Collected) → length file < FILE_LEN_LIMIT → Walks file at (Some r)
    → EndsSegments (drop at file) → r.total ≤ length r.store → HasJpegStore file r.start (r.end - r.start) r.store
store-here file at r fits w ends whole =
    record
    { fits = fits; segments = w.segments; rest = drop at file; begins = w.begins; ends = ends; holds = store-in w.segments r w.state whole }

-- a run that waits for more is a part of a store
pub part-in : (segments : List Segment) (r : Collected) (h : IsRunOf segments r) → length r.store < r.total
    → HoldsPart segments h.first h.others
part-in segments r h short = record {
  before = h.before;
  split =
      h.split ∙ ap (λ (x : List Segment). h.before ++ (h.first ∷ h.others ++ x)) (h.closed short)
      ∙ ap (λ (x : List Segment). h.before ++ x) (append-nil (h.first ∷ h.others));
  starts = h.starts;
  part = r.store;
  is_run = h.is_run;
  missing = omega (arith, short, h.total);
  small = omega (arith, h.total, h.small);
  none_before = h.none_before;
}

-- segments in a state of the walk have no fault
pub no-fault : (segments : List Segment) (run : Option Collected) → IsState segments run → HaveNoFault segments
no-fault segments None h = none_begins h
no-fault segments (Some r) h = ⊎_elim
    (λ short. open_after h.first h.others (part-in segments r h short))
    (λ whole. one_held r.start (r.end - r.start) r.store (store-in segments r h whole))
    (cases_lt (length r.store) r.total)

-- the walk is refused at a segment
pub refuse : (file : List ℕ) (at : ℕ) (run : Option Collected) (e : Extent) (fault : MediaError) (w : Walks file at run) (x : IsExtent file at e)
    → PacketFault w.segments (segment_of x.fill file e) fault → SegmentFault file fault
refuse file at run e fault w x fails = record {
  before = w.segments;
  rest = drop at file;
  begins = w.begins;
  passing = no-fault w.segments run w.state;
  fails = at_segment (segment_of x.fill file e) (drop e.end file) x.legal x.bytes fails;
}

-- or at a marker or its length
pub refuse-marker : (file : List ℕ) (at : ℕ) (run : Option Collected) (fault : MediaError) → Walks file at run
    → MarkerFault at (drop at file) fault → SegmentFault file fault
refuse-marker file at run fault w fails = record {
  before = w.segments;
  rest = drop at file;
  begins = w.begins;
  passing = no-fault w.segments run w.state;
  fails = at_marker (subst (λ p. MarkerFault p (drop at file) fault) w.place fails);
}

-- or where the segments end too early
pub refuse-end : (file : List ℕ) (at : ℕ) (r : Collected) → Walks file at (Some r) → EndsSegments (drop at file)
    → length r.store < r.total → SegmentFault file (BadPacket at)
refuse-end file at r w ends short = record {
  before = w.segments;
  rest = drop at file;
  begins = w.begins;
  passing = no-fault w.segments (Some r) w.state;
  fails = at_end _ _ ends (part-in w.segments r w.state short) (ap BadPacket w.place);
}
