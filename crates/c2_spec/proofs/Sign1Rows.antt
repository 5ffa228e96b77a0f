-- A worked Sig_structure (RFC 9052, section 4.4), computed by hand from RFC 8949's heads: a list of four, the text
-- "Signature1", the protected header of ES256 (h'A10126'), nothing beside it, and an empty payload.
use Rattle.std.proofs.Common.{◌≡◌, [], ◌∷◌, ◌++◌, refl, codes}
use Rattle.c2_spec.specs.Cbor.Deterministic.{deterministic, shortest_head}
use Rattle.c2_spec.specs.C2pa.Sign1.{sig_structure}

-- The bytes that are signed for the header {1: -7} and no payload are these 18.
empty_payload : deterministic (sig_structure (0xA1 ∷ 0x01 ∷ 0x26 ∷ []) [])
    ≡ 0x84 ∷ 0x6A ∷ codes "Signature1" ++ 0x43 ∷ 0xA1 ∷ 0x01 ∷ 0x26 ∷ 0x40 ∷ 0x40 ∷ []
unfolding shortest_head
empty_payload = refl
