-- Runs of packets: what they begin with, how long they are, and what goes on with them.
use Rattle.std.proofs.Common.{◌≡◌, ℕ, suc, ◌+◌, ◌-◌, ◌<◌, true, false, List, [], ◌∷◌, ◌++◌, length, map, refl, sym, ap, ◌∙◌, arith, length-append}
use Rattle.std.proofs.lemmas.List.{map-append, same_from_push, length_push}
use Rattle.std.proofs.lemmas.List.Concat.{flat_map-append}
use Rattle.std.proofs.lemmas.Slice.Eq.{bytes_eq-Decides}
use Rattle.std.specs.List.{flat_map, range_with_len}
use Rattle.c2_spec.specs.Jpeg.Segments.{Segment}
use Rattle.c2_spec.specs.Jpeg.Packets.{IsPacketRun, packet_in, is_packet}
use Rattle.c2_spec.specs.Jpeg.Store.{IsNextPacket}
use Rattle.c2_jpegseg_segments.specs.Runs.{Collected, goes_on}
use Rattle.c2_jpegseg_segments.specs.Walks.{IsRunOf}
use borrow.Author.Tests.{le-leb, eq-eqb, both_ways}
use Rattle.c2_lemmas.proofs.Bools.{and_true}
use Rattle.c2_lemmas.proofs.Each.{each_back, each_front}
use Rattle.c2_lemmas.proofs.Numbers.{range_push}

-- the bodies of packets, joined
abbrev pub bodies : List Segment → List ℕ
bodies run = flat_map (λ s. (packet_in s).body) run

-- where the numbers of packets run on from a, so do those of the first of them
numbers-front : (f : Segment → ℕ) (a : ℕ) (xs ys : List Segment)
    → map f (xs ++ ys) ≡ range_with_len a (length (xs ++ ys)) → map f xs ≡ range_with_len a (length xs)
numbers-front f a [] ys h = refl
numbers-front f a (x ∷ xs) ys h =
    let head : f x ≡ a = cc (h) in
    let tail : map f (xs ++ ys) ≡ range_with_len (a + 1) (length (xs ++ ys)) = cc (h) in
    ap (λ n. n ∷ map f xs) head ∙ ap (λ (ns : List ℕ). a ∷ ns) (numbers-front f (a + 1) xs ys tail)

-- the last of them has the next number
number-last : (f : Segment → ℕ) (xs : List Segment) (y : Segment)
    → map f (xs ++ y ∷ []) ≡ range_with_len 1 (length (xs ++ y ∷ [])) → f y ≡ length xs + 1
number-last f xs y h =
    let count : length (xs ++ y ∷ []) ≡ suc (length xs) = omega (arith, length_push xs y) in
    let whole : map f xs ++ f y ∷ [] ≡ range_with_len 1 (length xs) ++ (1 + length xs) ∷ [] =
    sym (map-append f xs (y ∷ [])) ∙ h ∙ ap (range_with_len 1) count ∙ range_push 1 (length xs) in
    omega (arith, (same_from_push (map f xs) (range_with_len 1 (length xs)) (f y) (1 + length xs) whole).1)

-- the first packets of a run are a run
pub run-front : (first : Segment) (xs ys : List Segment) (store : List ℕ) → IsPacketRun first (xs ++ ys) store
    → IsPacketRun first xs ((packet_in first).header ++ bodies (first ∷ xs))
run-front first xs ys store r = record {
  packets = (r.packets.0, each_front (λ s. is_packet s ≡ true) xs ys r.packets.1);
  numbers = numbers-front (λ s. (packet_in s).z) 1 (first ∷ xs) ys r.numbers;
  same =
      each_front (λ s. ((packet_in s).en ≡ (packet_in first).en) × ((packet_in s).header ≡ (packet_in first).header)) xs
      ys r.same;
  bodies = (r.bodies.0, each_front (λ s. 0 < length (packet_in s).body) xs ys r.bodies.1);
  bytes = refl;
}

-- a run that goes on is longer by the further bodies
pub run-longer : (first : Segment) (xs ys : List Segment) (a b : List ℕ) → IsPacketRun first xs a
    → IsPacketRun first (xs ++ ys) b → length b ≡ length a + length (bodies ys)
run-longer first xs ys a b p q =
    let short : length a ≡ length (packet_in first).header + length (bodies (first ∷ xs)) =
    ap length p.bytes ∙ length-append (packet_in first).header (bodies (first ∷ xs)) in
    let long : length b ≡ length (packet_in first).header + length (bodies ((first ∷ xs) ++ ys)) =
    ap length q.bytes ∙ length-append (packet_in first).header (bodies ((first ∷ xs) ++ ys)) in
    let parts : length (bodies ((first ∷ xs) ++ ys)) ≡ length (bodies (first ∷ xs)) + length (bodies ys) =
    ap length (flat_map-append (λ s. (packet_in s).body) (first ∷ xs) ys) ∙ length-append (bodies (first ∷ xs)) (bodies ys) in
    omega (arith, short, long, parts)

-- the length of a run, by its parts
pub run-parts : (first : Segment) (others : List Segment) (store : List ℕ) → IsPacketRun first others store
    → length store ≡ length (packet_in first).header + (length (packet_in first).body + length (bodies others))
run-parts first others store r =
    ap length r.bytes ∙ length-append (packet_in first).header (bodies (first ∷ others))
    ∙ ap (λ n. length (packet_in first).header + n) (length-append (packet_in first).body (bodies others))

-- the segment is a packet that goes on with the run
pub record Follows (r : Collected) (s : Segment) : Type 0 where
  pub packet : is_packet s ≡ true
  pub goes : goes_on r (packet_in s) ≡ true

-- a next packet of a run goes on with it
pub next-follows : (segments : List Segment) (s : Segment) (r : Collected) (h : IsRunOf segments r)
    → IsNextPacket h.first h.others s → Follows r s
unfolding goes_on
next-follows segments s r h next =
    let run = next.is_run in
    let same =
    (each_back (λ t. ((packet_in t).en ≡ (packet_in h.first).en) × ((packet_in t).header ≡ (packet_in h.first).header)) h.others (s ∷ []) run.same).0 in
    let some : 0 < length (packet_in s).body =
    (each_back (λ t. 0 < length (packet_in t).body) h.others (s ∷ []) run.bodies.1).0 in
    let number : (packet_in s).z ≡ length (h.first ∷ h.others) + 1 =
    number-last (λ t. (packet_in t).z) (h.first ∷ h.others) s run.numbers in
    let longer : length next.part ≡ length r.store + length (bodies (s ∷ [])) =
    run-longer h.first h.others (s ∷ []) r.store next.part h.is_run run in
    let body : length (bodies (s ∷ [])) ≡ length (packet_in s).body + 0 = length-append (packet_in s).body [] in
    record {
      packet = (each_back (λ t. is_packet t ≡ true) h.others (s ∷ []) run.packets.1).0;
      goes = and_true _ _
          (and_true _ _
          (and_true _ _
          (and_true _ _ (eq-eqb _ _ (same.0 ∙ sym h.en)) ((bytes_eq-Decides (packet_in s).header r.header).1 (same.1 ∙ sym h.header)))
          (eq-eqb _ _ (omega (arith, number, h.count))))
          (le-leb 1 (length (packet_in s).body) (omega (arith, some))))
          (le-leb (length (packet_in s).body) (r.total - length r.store) (omega (arith, longer, body, next.fits, h.total)));
    }

-- so what is no packet, or fails the test, is no next packet
pub no-packet-next : (segments : List Segment) (s : Segment) (r : Collected) (h : IsRunOf segments r)
    → is_packet s ≡ false → IsNextPacket h.first h.others s → ⊥
no-packet-next segments s r h none next = both_ways _ none (next-follows segments s r h next).packet

-- (the same of a packet)
pub other-packet-next : (segments : List Segment) (s : Segment) (r : Collected) (h : IsRunOf segments r)
    → goes_on r (packet_in s) ≡ false → IsNextPacket h.first h.others s → ⊥
other-packet-next segments s r h other next = both_ways _ other (next-follows segments s r h next).goes
