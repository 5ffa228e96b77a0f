-- Lemmas on packets and their headers.
use Rattle.std.proofs.Common.{◌≡◌, ℕ, ◌+◌, ◌≤◌, Bool, true, false, cond, List, ◌++◌, length, take, drop, refl, sym, ap, ◌∙◌, arith, eqb}
use Rattle.std.proofs.lemmas.List.{length-take-le, length-drop, take-take, take-append-le, take_at}
use Rattle.std.specs.Int.{w32, from_be_bytes}
use Rattle.c2_spec.specs.Jpeg.Packets as jpeg
use Rattle.c2_jpegseg_segments.specs.Packets.{IsHeader}

-- both lengths of a header
header_cases : (b : Bool) (n : ℕ) → n ≡ cond b 16 8 → 8 ≤ n
header_cases true n e = omega arith
header_cases false n e = omega arith

-- a whole header has 8 bytes
pub at_least_8 : (header : List ℕ) → IsHeader header → 8 ≤ length header
at_least_8 header h = header_cases (eqb (from_be_bytes w32 (take 4 header)) 1) (length header) h

-- and 16 where LBox is 1
pub wide_header : (header : List ℕ) → IsHeader header → from_be_bytes w32 (take 4 header) ≡ 1 → 16 ≤ length header
wide_header header h one =
    let e : length header ≡ 16 = h ∙ ap jpeg.packet_header_len one in
    omega arith

-- LBox is within the header
four : (n : ℕ) → 4 ≤ jpeg.packet_header_len n
four n = let h : 8 ≤ jpeg.packet_header_len n = header_cases (eqb n 1) (jpeg.packet_header_len n) refl in omega arith

-- the beginning of a payload after the packet's numbers is a whole header
pub whole_header : (payload : List ℕ) → 8 + jpeg.packet_header_len (jpeg.payload_lbox payload) ≤ length payload
    → IsHeader (take (jpeg.packet_header_len (jpeg.payload_lbox payload)) (drop 8 payload))
whole_header payload long =
    let front : take 4 (take (jpeg.packet_header_len (jpeg.payload_lbox payload)) (drop 8 payload)) ≡ take 4 (drop 8 payload) =
    take-take 4 _ _ (four (jpeg.payload_lbox payload)) in
    length-take-le _ _ (omega (arith, length-drop 8 payload))
    ∙ sym (ap (λ (x : List ℕ). jpeg.packet_header_len (from_be_bytes w32 x)) front)

-- the header is the prefix of a store that begins with it, and stays so when more comes after
pub header_first : (header body : List ℕ) → take (length header) (header ++ body) ≡ header
header_first header body = take_at header body (length header) refl

-- (the same, with more after)
pub header_kept : (n : ℕ) (store body : List ℕ) → n ≤ length store → take n (store ++ body) ≡ take n store
header_kept n store body le = take-append-le n store body le
