-- The packets of a store hold it, wherever they stand among segments that begin no store and don't have their number.
use Rattle.std.specs.Prelude.{◌==◌}
use Rattle.std.proofs.Common.{◌≡◌, ℕ, suc, ◌+◌, ◌-◌, ◌^◌, ◌≤◌, Bool, true, false, leb, not, ◌&&◌, List, [], ◌∷◌, ◌++◌, length, take, drop, refl, sym, ap, ◌∙◌, subst, arith}
use Rattle.std.proofs.lemmas.Bool.{le-leb, eq-eqb, and_from, or_parts}
use Rattle.std.proofs.lemmas.List.{length-take, length-drop, drop-take, drop-drop, take-take}
use Rattle.std.specs.List.{flat_map, AllByRecursion, range_with_len}
use Rattle.std.specs.Str.{bytes_eq}
use Rattle.std.specs.Int.{w32, to_be_bytes, from_be_bytes}
use Rattle.c2_spec.specs.Jpeg.Segments.{Segment, segment_bytes, place_after}
use Rattle.c2_spec.specs.Jpeg.Packets.{Packet, is_packet, packet_in, stated_length, is_first_packet, is_store_start, is_stray, is_further_packet, header_tbox}
use Rattle.c2_spec.specs.declared.kinds.TheConstants.{JUMB, JUMD, STORE_TYPE}
use Rattle.c2_spec.specs.declared.packets.TheConstants.{PACKET_BODY_LEN}
use Rattle.c2_spec.specs.Jpeg.Store.{HoldsStore}
use Rattle.c2_spec.specs.Jpeg.Writing.{packet_count, packets_from, packets_of, packets_bytes, IsPacketStore, has_number, is_taken}
use Rattle.c2_jpegseg.proofs.WrittenPackets.{head_of, IsPiece, made, made_packet, made_en, made_z, made_header, made_body, head_states}
use Rattle.c2_jpegseg.proofs.WrittenRuns.{Holds, IsFrame, piece, all_packets, all_numbers, all_same, same_as, all_bodies, joined, split_store, frame, packets_are, body_len, few, numbers_len}

-- ---- the first packet

-- a packet with this number, header and piece is the first of a C2PA store
first_test : (p : Packet) (len : ℕ) → p.z ≡ 1 → p.header ≡ head_of len → 24 ≤ length p.body
    → take 4 (drop 4 p.body) ≡ to_be_bytes w32 JUMD → take 16 (drop 8 p.body) ≡ STORE_TYPE → is_first_packet p ≡ true
unfolding is_first_packet
first_test p len z h n d t =
    and_from
    ((p.z == 1) && (header_tbox p.header == JUMB) && leb 24 (length p.body) && (from_be_bytes w32 (take 4 (drop 4 p.body)) == JUMD))
    (bytes_eq (take 16 (drop 8 p.body)) STORE_TYPE)
    (and_from ((p.z == 1) && (header_tbox p.header == JUMB) && leb 24 (length p.body)) (from_be_bytes w32 (take 4 (drop 4 p.body)) == JUMD)
    (and_from ((p.z == 1) && (header_tbox p.header == JUMB)) (leb 24 (length p.body))
    (and_from (p.z == 1) (header_tbox p.header == JUMB) (eq-eqb p.z 1 z) (ap (λ (x : List ℕ). header_tbox x == JUMB) h))
    (le-leb 24 (length p.body) n))
    (ap (λ (x : List ℕ). from_be_bytes w32 x == JUMD) d))
    (ap (λ (x : List ℕ). bytes_eq x STORE_TYPE) t)

-- what the piece of the first packet begins with
record IsFirstBody (body : List ℕ) : Type 0 where
  long : 24 ≤ length body
  described : take 4 (drop 4 body) ≡ to_be_bytes w32 JUMD
  of_c2pa : take 16 (drop 8 body) ≡ STORE_TYPE

-- the piece of the first packet of a store begins with the store's description
first_body : (store : List ℕ) → IsPacketStore store → IsFirstBody (take PACKET_BODY_LEN (drop 8 store))
first_body store h = record {
  long = omega (arith, length-take PACKET_BODY_LEN (drop 8 store), length-drop 8 store, h.sized.least);
  described =
      ap (take 4) (drop-take 4 (PACKET_BODY_LEN - 4) (drop 8 store))
      ∙ take-take 4 (PACKET_BODY_LEN - 4) (drop 4 (drop 8 store)) (omega arith) ∙ ap (take 4) (drop-drop 4 8 store)
      ∙ h.described;
  of_c2pa =
      ap (take 16) (drop-take 8 (PACKET_BODY_LEN - 8) (drop 8 store))
      ∙ take-take 16 (PACKET_BODY_LEN - 8) (drop 8 (drop 8 store)) (omega arith) ∙ ap (take 16) (drop-drop 8 8 store)
      ∙ h.of_c2pa;
}

-- as a segment it begins a store
start_of : (s : Segment) → is_packet s ≡ true → is_first_packet (packet_in s) ≡ true → is_store_start s ≡ true
unfolding is_store_start
start_of s p f = and_from (is_packet s) (is_first_packet (packet_in s)) p f

-- the first packet that is written begins a store
begins : (store : List ℕ) (en : ℕ) → IsPacketStore store → en ≤ 0xFFFF
    → is_store_start (made (length store) en 1 (take PACKET_BODY_LEN (drop 8 store))) ≡ true
begins store en h le =
    let f : IsFrame (length store) en = frame store en h le in
    let p : IsPiece (length store) en 1 (take PACKET_BODY_LEN (drop 8 store)) =
    piece (length store) en 1 (drop 8 store) f (omega arith) in
    let b = first_body store h in
    start_of _ (made_packet (length store) en 1 (take PACKET_BODY_LEN (drop 8 store)) p)
    (first_test (packet_in (made (length store) en 1 (take PACKET_BODY_LEN (drop 8 store)))) (length store) (made_z (length store) en 1 (take PACKET_BODY_LEN (drop 8 store)) p) (made_header (length store) en 1 (take PACKET_BODY_LEN (drop 8 store)) p)
    (subst (λ (x : List ℕ). 24 ≤ length x) (sym (made_body (length store) en 1 (take PACKET_BODY_LEN (drop 8 store)) p)) b.long)
    (ap (λ (x : List ℕ). take 4 (drop 4 x)) (made_body (length store) en 1 (take PACKET_BODY_LEN (drop 8 store)) p) ∙ b.described)
    (ap (λ (x : List ℕ). take 16 (drop 8 x)) (made_body (length store) en 1 (take PACKET_BODY_LEN (drop 8 store)) p) ∙ b.of_c2pa))

-- ---- no stray

-- a segment without the number is no stray packet
not_stray : (en : ℕ) (s : Segment) → has_number en s ≡ false → is_stray en s ≡ false
unfolding is_stray is_further_packet
not_stray en s h = go (is_packet s) (header_tbox (packet_in s).header == JUMB) ((packet_in s).en == en) (not ((packet_in s).z == 1)) h
  where
    go : (a b c d : Bool) → (a && c) ≡ false → (a && (b && c && d)) ≡ false
    go false b c d e = refl
    go true false c d e = refl
    go true true false d e = refl
    go true true true d e = absurd (cc (e))

-- of segments without the number none is a stray packet
pub none_stray : (en a : ℕ) (ss : List Segment) → a ≡ en → is_taken ss en ≡ false
    → AllByRecursion (λ s. is_stray a s ≡ false) ss
none_stray en a [] e h = tt
none_stray en a (s ∷ ss) e h =
    let parts = or_parts (has_number en s) (is_taken ss en) h in
    (ap (λ n. is_stray n s) e ∙ not_stray en s parts.0, none_stray en a ss e parts.1)

-- ---- the run

-- a run from its count on
run_holds : (store : List ℕ) (en j : ℕ) (before after : List Segment) → IsPacketStore store → en ≤ 0xFFFF
    → packet_count (length store) ≡ suc j
    → AllByRecursion (λ s. is_store_start s ≡ false) before → AllByRecursion (λ s. is_store_start s ≡ false) after
    → is_taken after en ≡ false
    → HoldsStore (before ++ (packets_from (head_of (length store)) en (suc j) 1 (drop 8 store) ++ after)) (place_after before) (length (flat_map segment_bytes (packets_from (head_of (length store)) en (suc j) 1 (drop 8 store)))) store
run_holds store en j before after h le count no_before no_after free =
    let len : ℕ = length store in
    let f : IsFrame len en = frame store en h le in
    let body : List ℕ = drop 8 store in
    let first : Segment = made len en 1 (take PACKET_BODY_LEN body) in
    let others : List Segment = packets_from (head_of len) en j 2 (drop PACKET_BODY_LEN body) in
    let fits : 1 + suc j ≤ 2 ^ 32 = subst (λ n. 1 + n ≤ 2 ^ 32) count (few store h) in
    let holds : Holds (suc j) (length body) = subst (λ n. Holds n (length body)) count (body_len store h) in
    let p : IsPiece len en 1 (take PACKET_BODY_LEN body) = piece len en 1 body f (omega arith) in
    record {
      before = before;
      first = first;
      others = others;
      after = after;
      split = refl;
      starts = begins store en h le;
      is_run = record {
        packets = all_packets len en (suc j) 1 body f fits;
        numbers =
            all_numbers len en (suc j) 1 body f fits
            ∙ ap (λ n. range_with_len 1 n) (sym (numbers_len (head_of len) en (suc j) 1 body));
        same =
            same_as len en (packet_in first).en (packet_in first).header others
            (made_en len en 1 (take PACKET_BODY_LEN body) p) (made_header len en 1 (take PACKET_BODY_LEN body) p)
            (all_same len en j 2 (drop PACKET_BODY_LEN body) f (omega arith));
        bodies = all_bodies len en (suc j) 1 body f fits holds;
        bytes =
            split_store store h
            ∙ ap (λ (x : List ℕ). head_of len ++ x) (sym (joined len en (suc j) 1 body f fits holds))
            ∙ ap (λ (x : List ℕ). x ++ flat_map (λ s. (packet_in s).body) (first ∷ others))
            (sym (made_header len en 1 (take PACKET_BODY_LEN body) p));
      };
      whole =
          sym (ap stated_length (made_header len en 1 (take PACKET_BODY_LEN body) p) ∙ head_states len f.least f.most);
      small = h.sized.most;
      none_before = no_before;
      none_after = no_after;
      no_stray = none_stray en (packet_in first).en after (made_en len en 1 (take PACKET_BODY_LEN body) p) free;
      from = refl;
      for = refl;
    }

-- the packets of a store hold it, wherever they stand
pub packets_hold : (store : List ℕ) (en : ℕ) (before after : List Segment) → IsPacketStore store → en ≤ 0xFFFF
    → AllByRecursion (λ s. is_store_start s ≡ false) before → AllByRecursion (λ s. is_store_start s ≡ false) after
    → is_taken after en ≡ false
    → HoldsStore (before ++ (packets_of store en ++ after)) (place_after before) (length (packets_bytes store en)) store
packets_hold store en before after h le no_before no_after free =
    let n : ℕ = packet_count (length store) - 1 in
    let count : packet_count (length store) ≡ suc n = omega arith in
    let same : packets_of store en ≡ packets_from (head_of (length store)) en (suc n) 1 (drop 8 store) =
    packets_are store en h ∙ ap (λ k. packets_from (head_of (length store)) en k 1 (drop 8 store)) count in
    subst
    (λ (ss : List Segment). HoldsStore (before ++ (ss ++ after)) (place_after before) (length (flat_map segment_bytes ss)) store)
    (sym same) (run_holds store en n before after h le count no_before no_after free)
