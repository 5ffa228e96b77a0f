-- A store in packets as it is written into a JPEG file (ISO/IEC 18477-3, annex B.2), the place where they go, and their number.
--
-- Packets are written without fill, under a header with a 4-byte length; all but the last are full.
use Rattle.std.specs.Prelude.{◌≡◌, ℕ, zero, suc, ◌+◌, ◌*◌, ◌-◌, ◌≤◌, ◌^◌, ◌<◌, max, Bool, true, false, ◌&&◌, List, [], ◌∷◌, ◌++◌, length, take, drop, ◌==◌, if◌then◌else◌, Option, Some, None}
use Rattle.std.specs.List.{flat_map, list_any}
use Rattle.std.specs.Int.{w16, w32, to_be_bytes, div_ceil}
use Rattle.c2_base.specs.declared.limits.TheConstants.{MAX_STORE_LEN}
use Rattle.c2_spec.specs.declared.kinds.TheConstants.{JUMB, JUMD, STORE_TYPE}
use Rattle.c2_spec.specs.declared.markers.TheConstants.{APP0, APP11, BOX_IDENTIFIER}
use Rattle.c2_spec.specs.declared.packets.TheConstants.{PACKET_BODY_LEN, PACKET_FRAME_LEN, PACKET_HEADER_LEN, LEAST_STORE_LEN, LEAST_NUMBER}
use Rattle.c2_spec.specs.Jpeg.Segments.{Segment, segment_bytes, place_after}
use Rattle.c2_spec.specs.Jpeg.Packets.{is_packet, packet_in}

-- what a packet has after its length: the identifier, its box instance number, its packet sequence number, the box header, and a piece
-- of the payload
abbrev pub packet_payload : List ℕ → ℕ → ℕ → List ℕ → List ℕ
packet_payload header en z body = to_be_bytes w16 BOX_IDENTIFIER ++ (to_be_bytes w16 en ++ (to_be_bytes w32 z ++ (header ++ body)))

-- a packet without fill
abbrev pub packet_segment : List ℕ → ℕ → ℕ → List ℕ → Segment
packet_segment header en z body = record { fill = 0; marker = APP11; payload = packet_payload header en z body }

-- how many packets a store of so many bytes takes
abbrev pub packet_count : ℕ → ℕ
packet_count len = max 1 (div_ceil (len - PACKET_HEADER_LEN) PACKET_BODY_LEN)

-- so many packets of a payload, numbered from z on, all full but the last
abbrev pub packets_from : List ℕ → ℕ → ℕ → ℕ → List ℕ → List Segment
packets_from header en zero z body = []
packets_from header en (suc more) z body =
    packet_segment header en z (take PACKET_BODY_LEN body) ∷ packets_from header en more (z + 1) (drop PACKET_BODY_LEN body)

-- the packets of a store under a number
abbrev pub packets_of : List ℕ → ℕ → List Segment
packets_of store en = packets_from (take PACKET_HEADER_LEN store) en (packet_count (length store)) 1 (drop PACKET_HEADER_LEN store)

-- the bytes of the packets of a store under a number
abbrev pub packets_bytes : List ℕ → ℕ → List ℕ
packets_bytes store en = flat_map segment_bytes (packets_of store en)

-- how many bytes the packets of a store of so many bytes have
abbrev pub segments_len : ℕ → ℕ
segments_len len = PACKET_FRAME_LEN * packet_count len + len - PACKET_HEADER_LEN

-- a length that a store may have
pub record IsStoreLen (len : ℕ) : Type 0 where
  pub least : LEAST_STORE_LEN ≤ len
  pub most : len ≤ MAX_STORE_LEN

-- A store that can go into packets: it begins with a 4-byte length that is its own, `jumb`, and a description box with the type
-- of a C2PA store.
pub record IsPacketStore (store : List ℕ) : Type 0 where
  pub sized : IsStoreLen (length store)
  pub lbox : take 4 store ≡ to_be_bytes w32 (length store)
  pub tbox : take 4 (drop 4 store) ≡ to_be_bytes w32 JUMB
  pub described : take 4 (drop 12 store) ≡ to_be_bytes w32 JUMD
  pub of_c2pa : take 16 (drop 16 store) ≡ STORE_TYPE

-- ---- their place and their number among the segments of a file

-- the APP0 segments at the front
abbrev pub leading_app0 : List Segment → List Segment
leading_app0 [] = []
leading_app0 (s ∷ ss) = if s.marker == APP0 then s ∷ leading_app0 ss else []

-- packets go behind the start of the image and the APP0 segments at the front
abbrev pub insert_place : List Segment → ℕ
insert_place segments = place_after (leading_app0 segments)

-- a packet under this number
abbrev pub has_number : ℕ → Segment → Bool
has_number en s = is_packet s && ((packet_in s).en == en)

-- a packet has this number
abbrev pub is_taken : List Segment → ℕ → Bool
is_taken segments en = list_any (has_number en) segments

-- the least number from 0x0211 to 0xFFFF that no packet has
pub record IsFreeNumber (segments : List Segment) (en : ℕ) : Type 0 where
  pub least : LEAST_NUMBER ≤ en
  pub most : en < 2 ^ 16
  pub free : is_taken segments en ≡ false
  pub first : (n : ℕ) → LEAST_NUMBER ≤ n → n < en → is_taken segments n ≡ true

-- each of these numbers is taken
abbrev pub HasNoFreeNumber : List Segment → Type 0
HasNoFreeNumber segments = (n : ℕ) → LEAST_NUMBER ≤ n → n < 2 ^ 16 → is_taken segments n ≡ true

-- the free number of these segments, or none where there is none
abbrev pub IsNumberOf : List Segment → Option ℕ → Type 0
IsNumberOf segments (Some en) = IsFreeNumber segments en
IsNumberOf segments None = HasNoFreeNumber segments
