-- The packets of a store put in between segments.
use Rattle.std.proofs.Common.{◌≡◌, ℕ, suc, ◌+◌, ◌≤◌, false, List, ◌++◌, length, Option, Some, sym, ap, ◌∙◌, subst, arith, length-append}
use Rattle.std.proofs.lemmas.List.Concat.{flat_map-append}
use Rattle.std.specs.List.{flat_map}
use Rattle.c2_spec.specs.Jpeg.Packets.{is_store_start}
use Rattle.c2_spec.specs.Jpeg.Places.{IsOfSegments}
use Rattle.c2_spec.specs.Jpeg.Segments.{Segment, place_after, segment_bytes, start_of_image}
use Rattle.c2_spec.specs.Jpeg.Store.{HasJpegStore, HoldsStore}
use Rattle.c2_spec.specs.Jpeg.Writing.{packets_bytes, packets_of, segments_len}
use Rattle.c2_spec.specs.PutIn.{put_in, taken_out}
use Rattle.c2_rules.proofs.JpegMedia.{store_located}
use Rattle.c2_jpegseg.specs.Laws.{PacketsHold}
use Rattle.c2_jpegseg.proofs.TheLaws.{packets_hold_the_store}
use Rattle.c2_new_file_spec.proofs.Put.{put_between, put_len, put_taken}
use Rattle.c2_new_content_spec.specs.Holding.{HoldsAt}
use Rattle.c2_new_content_spec.specs.Splits.{CanHold, CanNumber, IsNumbered, of_segments}
use Rattle.c2_lemmas.proofs.Each.{each_back, each_front}

-- the place lies in the file
pub segments_inside : (base : List ℕ) (front back : List Segment) → IsOfSegments base (front ++ back)
    → place_after front ≤ length base
segments_inside base front back h =
    let size : length base ≡ suc (suc (length (flat_map segment_bytes (front ++ back)))) + length h.rest =
    ap length h.begins.bytes ∙ length-append (start_of_image ++ flat_map segment_bytes (front ++ back)) h.rest in
    omega
    (arith, size, ap length (flat_map-append segment_bytes front back), length-append (flat_map segment_bytes front) (flat_map segment_bytes back))

-- packets there can have the number that is given
pub number_can : (front back : List Segment) (number : Option ℕ) (en : ℕ) → number ≡ Some en
    → IsNumbered front back number → CanNumber back en
number_can front back number en e h = subst (IsNumbered front back) e h

-- the packets hold the store between the other segments
pub packets_hold :
    (base : List ℕ) (front back : List Segment) (number : Option ℕ) (en : ℕ) (store : List ℕ)
    → CanHold base (of_segments front back number) store → CanNumber back en → PacketsHold store en front back
packets_hold base front back number en store can free =
    packets_hold_the_store store en front back can.stored free.most
    (each_front (λ s. is_store_start s ≡ false) front back can.free)
    (each_back (λ s. is_store_start s ≡ false) front back can.free) free.unused

-- the file has the store in the range of the packets
pub packets_at :
    (base : List ℕ) (front back : List Segment) (number : Option ℕ) (en : ℕ) (store : List ℕ)
    → CanHold base (of_segments front back number) store → CanNumber back en
    → HasJpegStore (put_in (place_after front) (packets_bytes store en) base) (place_after front) (segments_len (length store)) store
packets_at base front back number en store can free =
    let of : IsOfSegments base (front ++ back) = can.room.split.0 in
    let held : PacketsHold store en front back = packets_hold base front back number en store can free in
    let total : length (put_in (place_after front) (packets_bytes store en) base) ≡ length base + length (packets_bytes store en) =
    put_len (place_after front) (packets_bytes store en) base in
    record {
      fits = omega (arith, total, held.size, can.room.fits);
      segments = front ++ (packets_of store en ++ back);
      rest = of.rest;
      begins = put_between base front (packets_of store en) back of.rest of.begins held.legal;
      ends = of.ends;
      holds =
          subst (λ n. HoldsStore (front ++ (packets_of store en ++ back)) (place_after front) n store) held.size
          held.holds;
    }

-- a file of segments holds the packets of a store that are put in, and is otherwise what it was
pub segments_hold :
    (base : List ℕ) (front back : List Segment) (number : Option ℕ) (en : ℕ) (store : List ℕ)
    → CanHold base (of_segments front back number) store → CanNumber back en
    → HoldsAt base (of_segments front back number) store (put_in (place_after front) (packets_bytes store en) base)
segments_hold base front back number en store can free =
    let start : ℕ = place_after front in
    let piece : List ℕ = packets_bytes store en in
    let file : List ℕ = put_in start piece base in
    let held : PacketsHold store en front back = packets_hold base front back number en store can free in
    let stored : HasJpegStore file start (segments_len (length store)) store =
    packets_at base front back number en store can free in
    record {
      located = store_located file start (segments_len (length store)) store stored;
      left =
          ap (λ n. taken_out start n file) (sym held.size)
          ∙ put_taken start piece base (segments_inside base front back can.room.split.0);
      size = put_len start piece base ∙ ap (λ n. length base + n) held.size;
    }
