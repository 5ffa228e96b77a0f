-- A packet as it is written is read as what was put into it.
use Rattle.std.specs.Prelude.{◌==◌}
use Rattle.std.proofs.Common.{◌≡◌, ◌&&◌, ℕ, ◌+◌, ◌^◌, ◌<◌, ◌≤◌, true, cond, leb, List, ◌++◌, length, take, drop, refl, ap, ◌∙◌, arith}
use Rattle.std.proofs.lemmas.Bool.{false≢true, le-leb, ne_eqb, and_from}
use Rattle.std.proofs.lemmas.Nat.{from_be_bytes-to_be_bytes_2, from_be_bytes-to_be_bytes_4}
use Rattle.std.specs.Int.{w16, w32, w64, to_be_bytes, from_be_bytes}
use Rattle.c2_spec.specs.Jpeg.Segments.{Segment, IsSegment, segment_bytes}
use Rattle.c2_spec.specs.Jpeg.Packets.{is_packet, packet_in, packet_header_len, payload_lbox, stated_length}
use Rattle.c2_spec.specs.declared.kinds.TheConstants.{JUMB}
use Rattle.c2_spec.specs.declared.markers.TheConstants.{BOX_IDENTIFIER}
use Rattle.c2_spec.specs.declared.packets.TheConstants.{PACKET_BODY_LEN}
use Rattle.c2_spec.specs.Jpeg.Writing.{packet_segment}

-- the header of a store of so many bytes
abbrev pub head_of : ℕ → List ℕ
head_of len = to_be_bytes w32 len ++ to_be_bytes w32 JUMB

-- what a packet is made of
pub record IsPiece (len en z : ℕ) (body : List ℕ) : Type 0 where
  pub least : 2 ≤ len
  pub most : len < 2 ^ 32
  pub en_fits : en < 2 ^ 16
  pub z_fits : z < 2 ^ 32
  pub room : length body ≤ PACKET_BODY_LEN

-- a packet as it is written: its store has so many bytes
abbrev pub made : ℕ → ℕ → ℕ → List ℕ → Segment
made len en z body = packet_segment (head_of len) en z body

-- the payload of a packet that is made is 16 bytes and its piece of the store
pub payload_len : (len en z : ℕ) (body : List ℕ) → length (made len en z body).payload ≡ 16 + length body
payload_len len en z body = omega arith

-- a packet that is made has 20 bytes and its piece of the store
pub bytes_len : (len en z : ℕ) (body : List ℕ) → length (segment_bytes (made len en z body)) ≡ 20 + length body
bytes_len len en z body = omega arith

-- a packet that is made is a segment
pub made_legal : (len en z : ℕ) (body : List ℕ) → IsPiece len en z body → IsSegment (made len en z body)
made_legal len en z body p =
    record
    { marker = refl; alone = λ h. absurd (false≢true h); fits = omega (arith, p.room, payload_len len en z body) }

-- the LBox of a packet that is made is the length of the store
lbox : (len en z : ℕ) (body : List ℕ) → IsPiece len en z body → payload_lbox (made len en z body).payload ≡ len
lbox len en z body p = from_be_bytes-to_be_bytes_4 len p.most

-- the header that a packet repeats has 8 bytes
pub header_8 : (len en z : ℕ) (body : List ℕ) → IsPiece len en z body
    → packet_header_len (payload_lbox (made len en z body).payload) ≡ 8
header_8 len en z body p =
    ap (λ b. cond b 16 8)
    (ne_eqb (payload_lbox (made len en z body).payload) 1 (λ e. omega (arith, lbox len en z body p, e, p.least)))

-- a packet that is made is a packet
pub made_packet : (len en z : ℕ) (body : List ℕ) → IsPiece len en z body → is_packet (made len en z body) ≡ true
made_packet len en z body p =
    and_from
    (leb 16 (length (made len en z body).payload) && (from_be_bytes w16 (take 2 (made len en z body).payload) == BOX_IDENTIFIER))
    (leb (8 + packet_header_len (payload_lbox (made len en z body).payload)) (length (made len en z body).payload))
    (and_from (leb 16 (length (made len en z body).payload)) (from_be_bytes w16 (take 2 (made len en z body).payload) == BOX_IDENTIFIER) (le-leb 16 (length (made len en z body).payload) (omega (arith, payload_len len en z body))) refl)
    (le-leb (8 + packet_header_len (payload_lbox (made len en z body).payload)) (length (made len en z body).payload) (omega (arith, header_8 len en z body p, payload_len len en z body)))

-- a packet that is made is read with the box instance number that it was given
pub made_en : (len en z : ℕ) (body : List ℕ) → IsPiece len en z body → (packet_in (made len en z body)).en ≡ en
made_en len en z body p = from_be_bytes-to_be_bytes_2 en p.en_fits

-- with its packet sequence number
pub made_z : (len en z : ℕ) (body : List ℕ) → IsPiece len en z body → (packet_in (made len en z body)).z ≡ z
made_z len en z body p = from_be_bytes-to_be_bytes_4 z p.z_fits

-- with the header of its store
pub made_header : (len en z : ℕ) (body : List ℕ) → IsPiece len en z body
    → (packet_in (made len en z body)).header ≡ head_of len
made_header len en z body p = ap (λ n. take n (drop 8 (made len en z body).payload)) (header_8 len en z body p)

-- a packet that is made has its piece of the store
pub made_body : (len en z : ℕ) (body : List ℕ) → IsPiece len en z body → (packet_in (made len en z body)).body ≡ body
made_body len en z body p = ap (λ n. drop (8 + n) (made len en z body).payload) (header_8 len en z body p)

-- the header states the length of the store
pub head_states : (len : ℕ) → 2 ≤ len → len < 2 ^ 32 → stated_length (head_of len) ≡ len
head_states len least most =
    let value : from_be_bytes w32 (take 4 (head_of len)) ≡ len = from_be_bytes-to_be_bytes_4 len most in
    ap (λ b. cond b (from_be_bytes w64 (take 8 (drop 8 (head_of len)))) (from_be_bytes w32 (take 4 (head_of len))))
    (ne_eqb (from_be_bytes w32 (take 4 (head_of len))) 1 (λ e. omega (arith, value, e, least)))
    ∙ value
