-- The packets that are written are a run, and hold the store.
use Rattle.std.proofs.Common.{◌≡◌, ℕ, zero, suc, ◌+◌, ◌*◌, ◌-◌, ◌^◌, ◌<◌, ◌≤◌, true, List, [], ◌∷◌, ◌++◌, length, take, drop, map, refl, sym, ap, ◌∙◌, subst, arith, length-append}
use Rattle.std.proofs.lemmas.List.{length-take, length-drop, take-append-drop, drop-take, take-take}
use Rattle.std.specs.List.{flat_map, AllByRecursion, range_with_len}
use Rattle.std.specs.Int.{w32, to_be_bytes}
use Rattle.c2_spec.specs.Jpeg.Segments.{Segment, IsSegment, segment_bytes}
use Rattle.c2_spec.specs.Jpeg.Packets.{is_packet, packet_in}
use Rattle.c2_spec.specs.Jpeg.Writing.{packet_count, packets_from, packets_of, packets_bytes, segments_len, IsPacketStore}
use Rattle.c2_spec.specs.declared.packets.TheConstants.{PACKET_BODY_LEN, LEAST_STORE_LEN}
use Rattle.c2_jpegseg.proofs.WrittenPackets.{head_of, IsPiece, made, bytes_len, made_legal, made_packet, made_en, made_z, made_header, made_body}

-- so many packets hold so many bytes, none of them empty
pub record Holds (k n : ℕ) : Type 0 where
  pub enough : n ≤ k * PACKET_BODY_LEN
  pub none_empty : k * PACKET_BODY_LEN < n + PACKET_BODY_LEN

-- no packet has more bytes of the store than it has room for
room_len : (body : List ℕ) → length (take PACKET_BODY_LEN body) ≤ PACKET_BODY_LEN
room_len body = omega (arith, length-take PACKET_BODY_LEN body)

-- the packets after the first hold the bytes after its piece
pub next : (k : ℕ) (body : List ℕ) → Holds (suc k) (length body) → Holds k (length (drop PACKET_BODY_LEN body))
next k body h =
    record
    { enough = omega (arith, h.enough, length-drop PACKET_BODY_LEN body); none_empty = omega (arith, h.none_empty, length-drop PACKET_BODY_LEN body) }

-- the piece of the first is not empty
some_bytes : (k : ℕ) (body : List ℕ) → Holds (suc k) (length body) → 0 < length (take PACKET_BODY_LEN body)
some_bytes k body h = omega (arith, h.none_empty, length-take PACKET_BODY_LEN body)

-- what all packets share
pub record IsFrame (len en : ℕ) : Type 0 where
  pub least : 2 ≤ len
  pub most : len < 2 ^ 32
  pub en_fits : en < 2 ^ 16

-- the first packet of a run is made of a piece
pub piece : (len en z : ℕ) (body : List ℕ) → IsFrame len en → z < 2 ^ 32 → IsPiece len en z (take PACKET_BODY_LEN body)
piece len en z body f lt =
    record { least = f.least; most = f.most; en_fits = f.en_fits; z_fits = lt; room = room_len body }

-- all of them are segments
pub all_legal : (len en k z : ℕ) (body : List ℕ) → IsFrame len en → z + k ≤ 2 ^ 32
    → AllByRecursion IsSegment (packets_from (head_of len) en k z body)
all_legal len en zero z body f le = tt
all_legal len en (suc k) z body f le =
    (made_legal len en z (take PACKET_BODY_LEN body) (piece len en z body f (omega arith)), all_legal len en k (z + 1) (drop PACKET_BODY_LEN body) f (omega arith))

-- all are packets
pub all_packets : (len en k z : ℕ) (body : List ℕ) → IsFrame len en → z + k ≤ 2 ^ 32
    → AllByRecursion (λ s. is_packet s ≡ true) (packets_from (head_of len) en k z body)
all_packets len en zero z body f le = tt
all_packets len en (suc k) z body f le =
    (made_packet len en z (take PACKET_BODY_LEN body) (piece len en z body f (omega arith)), all_packets len en k (z + 1) (drop PACKET_BODY_LEN body) f (omega arith))

-- the packets of a store are numbered one after the other
pub all_numbers : (len en k z : ℕ) (body : List ℕ) → IsFrame len en → z + k ≤ 2 ^ 32
    → map (λ s. (packet_in s).z) (packets_from (head_of len) en k z body) ≡ range_with_len z k
all_numbers len en zero z body f le = refl
all_numbers len en (suc k) z body f le =
    ap (λ n. n ∷ map (λ s. (packet_in s).z) (packets_from (head_of len) en k (z + 1) (drop PACKET_BODY_LEN body)))
    (made_z len en z (take PACKET_BODY_LEN body) (piece len en z body f (omega arith)))
    ∙ ap (λ (x : List ℕ). z ∷ x) (all_numbers len en k (z + 1) (drop PACKET_BODY_LEN body) f (omega arith))

-- the segment has this box instance number and the header of a store of so many bytes
abbrev pub IsSame : ℕ → ℕ → Segment → Type 0
IsSame len en s = ((packet_in s).en ≡ en) × ((packet_in s).header ≡ head_of len)

-- all of them have both
pub all_same : (len en k z : ℕ) (body : List ℕ) → IsFrame len en → z + k ≤ 2 ^ 32
    → AllByRecursion (IsSame len en) (packets_from (head_of len) en k z body)
all_same len en zero z body f le = tt
all_same len en (suc k) z body f le =
    let p : IsPiece len en z (take PACKET_BODY_LEN body) = piece len en z body f (omega arith) in
    ((made_en len en z (take PACKET_BODY_LEN body) p, made_header len en z (take PACKET_BODY_LEN body) p), all_same len en k (z + 1) (drop PACKET_BODY_LEN body) f (omega arith))

-- with what the first packet has in place of that
pub same_as : (len en : ℕ) (a : ℕ) (h : List ℕ) (ss : List Segment) → a ≡ en → h ≡ head_of len
    → AllByRecursion (IsSame len en) ss → AllByRecursion (λ s. ((packet_in s).en ≡ a) × ((packet_in s).header ≡ h)) ss
same_as len en a h [] e f all = tt
same_as len en a h (s ∷ ss) e f all = ((all.0.0 ∙ sym e, all.0.1 ∙ sym f), same_as len en a h ss e f all.1)

-- none of them is empty
pub all_bodies : (len en k z : ℕ) (body : List ℕ) → IsFrame len en → z + k ≤ 2 ^ 32 → Holds k (length body)
    → AllByRecursion (λ s. 0 < length (packet_in s).body) (packets_from (head_of len) en k z body)
all_bodies len en zero z body f le h = tt
all_bodies len en (suc k) z body f le h = (
  subst (λ (x : List ℕ). 0 < length x) (sym (made_body len en z (take PACKET_BODY_LEN body) (piece len en z body f (omega arith)))) (some_bytes k body h),
  all_bodies len en k (z + 1) (drop PACKET_BODY_LEN body) f (omega arith) (next k body h),
)

-- no packets hold no bytes
no_more : (body : List ℕ) → Holds 0 (length body) → body ≡ []
no_more [] h = refl
no_more (b ∷ bs) h = absurd (omega (arith, h.enough))

-- the pieces of packets in order are the bytes that they hold
pub joined : (len en k z : ℕ) (body : List ℕ) → IsFrame len en → z + k ≤ 2 ^ 32 → Holds k (length body)
    → flat_map (λ s. (packet_in s).body) (packets_from (head_of len) en k z body) ≡ body
joined len en zero z body f le h = sym (no_more body h)
joined len en (suc k) z body f le h =
    ap
    (λ (x : List ℕ). x ++ flat_map (λ s. (packet_in s).body) (packets_from (head_of len) en k (z + 1) (drop PACKET_BODY_LEN body)))
    (made_body len en z (take PACKET_BODY_LEN body) (piece len en z body f (omega arith)))
    ∙ ap (λ (x : List ℕ). take PACKET_BODY_LEN body ++ x)
    (joined len en k (z + 1) (drop PACKET_BODY_LEN body) f (omega arith) (next k body h))
    ∙ take-append-drop PACKET_BODY_LEN body

-- together they have 20 bytes each and those that they hold
pub run_len : (len en k z : ℕ) (body : List ℕ) → Holds k (length body)
    → length (flat_map segment_bytes (packets_from (head_of len) en k z body)) ≡ 20 * k + length body
run_len len en zero z body h = omega (arith, h.enough)
run_len len en (suc k) z body h =
    let more : length (flat_map segment_bytes (packets_from (head_of len) en k (z + 1) (drop PACKET_BODY_LEN body))) ≡ 20 * k + length (drop PACKET_BODY_LEN body) =
    run_len len en k (z + 1) (drop PACKET_BODY_LEN body) (next k body h) in
    let whole : length (flat_map segment_bytes (packets_from (head_of len) en (suc k) z body)) ≡ length (segment_bytes (made len en z (take PACKET_BODY_LEN body))) + length (flat_map segment_bytes (packets_from (head_of len) en k (z + 1) (drop PACKET_BODY_LEN body)))
    = length-append (segment_bytes (made len en z (take PACKET_BODY_LEN body))) (flat_map segment_bytes (packets_from (head_of len) en k (z + 1) (drop PACKET_BODY_LEN body))) in
    omega
    (arith, more, whole, bytes_len len en z (take PACKET_BODY_LEN body), length-take PACKET_BODY_LEN body, length-drop PACKET_BODY_LEN body)

-- there are as many as were asked for
pub numbers_len : (header : List ℕ) (en k z : ℕ) (body : List ℕ) → length (packets_from header en k z body) ≡ k
numbers_len header en zero z body = refl
numbers_len header en (suc k) z body = let h = numbers_len header en k (z + 1) (drop PACKET_BODY_LEN body) in omega arith

-- ---- of a store

-- the count is right
pub count_holds : (n : ℕ) → LEAST_STORE_LEN ≤ n → Holds (packet_count n) (n - 8)
count_holds n le = record { enough = omega arith; none_empty = omega arith }

-- what a list is that begins with its head
pub split_store : (store : List ℕ) → IsPacketStore store → store ≡ head_of (length store) ++ drop 8 store
split_store store h =
    let front : take 8 store ≡ take 4 store ++ take 4 (drop 4 store) = take_split store in
    sym (take-append-drop 8 store)
    ∙ ap (λ (x : List ℕ). x ++ drop 8 store)
    (front ∙ ap (λ (x : List ℕ). x ++ take 4 (drop 4 store)) h.lbox ∙ ap (λ (x : List ℕ). to_be_bytes w32 (length store) ++ x) h.tbox)
  where
    take_split : (xs : List ℕ) → take 8 xs ≡ take 4 xs ++ take 4 (drop 4 xs)
    take_split xs =
        sym (take-append-drop 4 (take 8 xs))
        ∙ ap (λ (x : List ℕ). x ++ drop 4 (take 8 xs)) (take-take 4 8 xs (omega arith))
        ∙ ap (λ (x : List ℕ). take 4 xs ++ x) (drop-take 4 4 xs)

-- the first 8 bytes of a store are its head
pub front_store : (store : List ℕ) → IsPacketStore store → take 8 store ≡ head_of (length store)
front_store store h = ap (take 8) (split_store store h)

-- the packets of a store share its length and a number
pub frame : (store : List ℕ) (en : ℕ) → IsPacketStore store → en ≤ 0xFFFF → IsFrame (length store) en
frame store en h le =
    record { least = omega (arith, h.sized.least); most = omega (arith, h.sized.most); en_fits = omega arith }

-- the packets of a store, with the header written out
pub packets_are : (store : List ℕ) (en : ℕ) → IsPacketStore store
    → packets_of store en ≡ packets_from (head_of (length store)) en (packet_count (length store)) 1 (drop 8 store)
packets_are store en h =
    ap (λ (x : List ℕ). packets_from x en (packet_count (length store)) 1 (drop 8 store)) (front_store store h)

-- as many packets as are counted hold it
pub body_len : (store : List ℕ) → IsPacketStore store → Holds (packet_count (length store)) (length (drop 8 store))
body_len store h =
    subst (Holds (packet_count (length store))) (sym (length-drop 8 store)) (count_holds (length store) h.sized.least)

-- the packets of a store are few enough to be numbered
pub few : (store : List ℕ) → IsPacketStore store → 1 + packet_count (length store) ≤ 2 ^ 32
few store h = let c = count_holds (length store) h.sized.least in omega (arith, c.none_empty, h.sized.most)

-- together they have as many bytes as was said
pub store_len : (store : List ℕ) (en : ℕ) → IsPacketStore store
    → length (packets_bytes store en) ≡ segments_len (length store)
store_len store en h =
    let n : length (flat_map segment_bytes (packets_from (head_of (length store)) en (packet_count (length store)) 1 (drop 8 store))) ≡ 20 * packet_count (length store) + length (drop 8 store) =
    run_len (length store) en (packet_count (length store)) 1 (drop 8 store) (body_len store h) in
    ap (λ (ss : List Segment). length (flat_map segment_bytes ss)) (packets_are store en h) ∙ n ∙ total
  where
    total : 20 * packet_count (length store) + length (drop 8 store) ≡ segments_len (length store)
    total = omega (arith, length-drop 8 store, h.sized.least)

-- all of them are segments, in the words of the definition
pub packets_legal : (store : List ℕ) (en : ℕ) → IsPacketStore store → en ≤ 0xFFFF
    → AllByRecursion IsSegment (packets_of store en)
packets_legal store en h le =
    subst (AllByRecursion IsSegment) (sym (packets_are store en h))
    (all_legal (length store) en (packet_count (length store)) 1 (drop 8 store) (frame store en h le) (few store h))
