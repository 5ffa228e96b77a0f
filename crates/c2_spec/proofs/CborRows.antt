-- Worked CBOR items, computed. A group says where its rows come from: RFC 8949, or this project's own choice.
use Rattle.std.proofs.Common.{◌≡◌, ℕ, List, [], ◌∷◌, None, Some, refl, codes}
use Rattle.c2_spec.specs.Cbor.Item.{Item, uint, nint, bytes, text, list, dict, tag, simple, half, no_items, item, Pairs, no_pairs, pair}
use Rattle.c2_spec.specs.Cbor.Deterministic.{deterministic, shortest_head}
use Rattle.c2_spec.specs.Cbor.Lookup.{field_of}

-- The heads' borders (RFC 8949, section 3): 23 is the last number in the first byte, then come 1, 2, 4 and 8 bytes.
heads : (shortest_head 0 23 ≡ 23 ∷ [])
    × (shortest_head 0 24 ≡ 24 ∷ 24 ∷ [])
    × (shortest_head 0 255 ≡ 24 ∷ 255 ∷ [])
    × (shortest_head 0 256 ≡ 25 ∷ 1 ∷ 0 ∷ [])
    × (shortest_head 0 65536 ≡ 26 ∷ 0 ∷ 1 ∷ 0 ∷ 0 ∷ [])
    × (shortest_head 0 4294967296 ≡ 27 ∷ 0 ∷ 0 ∷ 0 ∷ 1 ∷ 0 ∷ 0 ∷ 0 ∷ 0 ∷ [])
unfolding shortest_head
heads = (refl, refl, refl, refl, refl, refl)

-- Numbers of RFC 8949, appendix A: 0, 100, 1000000, 18446744073709551615, -1, -100.
numbers : (deterministic (uint 0) ≡ 0x00 ∷ [])
    × (deterministic (uint 100) ≡ 0x18 ∷ 0x64 ∷ [])
    × (deterministic (uint 1000000) ≡ 0x1A ∷ 0x00 ∷ 0x0F ∷ 0x42 ∷ 0x40 ∷ [])
    × (deterministic (uint 18446744073709551615)
    ≡ 0x1B ∷ 0xFF ∷ 0xFF ∷ 0xFF ∷ 0xFF ∷ 0xFF ∷ 0xFF ∷ 0xFF ∷ 0xFF ∷ [])
    × (deterministic (nint 0) ≡ 0x20 ∷ [])
    × (deterministic (nint 99) ≡ 0x38 ∷ 0x63 ∷ [])
unfolding shortest_head
numbers = (refl, refl, refl, refl, refl, refl)

-- Strings, simple values, a half float and a tag of the same appendix: h'01020304', "IETF", false, simple(255), 1.0, 1(1363896240).
small_items : (deterministic (bytes (1 ∷ 2 ∷ 3 ∷ 4 ∷ [])) ≡ 0x44 ∷ 1 ∷ 2 ∷ 3 ∷ 4 ∷ [])
    × (deterministic (text (codes "IETF")) ≡ 0x64 ∷ 0x49 ∷ 0x45 ∷ 0x54 ∷ 0x46 ∷ [])
    × (deterministic (simple 20) ≡ 0xF4 ∷ [])
    × (deterministic (simple 255) ≡ 0xF8 ∷ 0xFF ∷ [])
    × (deterministic (half 0x3C00) ≡ 0xF9 ∷ 0x3C ∷ 0x00 ∷ [])
    × (deterministic (tag 1 (uint 1363896240)) ≡ 0xC1 ∷ 0x1A ∷ 0x51 ∷ 0x4B ∷ 0x67 ∷ 0xB0 ∷ [])
unfolding shortest_head
small_items = (refl, refl, refl, refl, refl, refl)

-- a list of two numbers
abbrev two : ℕ → ℕ → Item
two a b = list (item (uint a) (item (uint b) no_items))

-- a pair whose key is a text
abbrev named : List ℕ → Item → Pairs → Pairs
named key value more = pair (text key) value more

-- A list of lists and two maps of the same appendix: [1, [2, 3], [4, 5]], {1: 2, 3: 4}, {"a": 1, "b": [2, 3]}.
nested : (deterministic (list (item (uint 1) (item (two 2 3) (item (two 4 5) no_items))))
    ≡ 0x83 ∷ 0x01 ∷ 0x82 ∷ 0x02 ∷ 0x03 ∷ 0x82 ∷ 0x04 ∷ 0x05 ∷ [])
    × (deterministic (dict (pair (uint 1) (uint 2) (pair (uint 3) (uint 4) no_pairs)))
    ≡ 0xA2 ∷ 0x01 ∷ 0x02 ∷ 0x03 ∷ 0x04 ∷ [])
    × (deterministic (dict (named (codes "a") (uint 1) (named (codes "b") (two 2 3) no_pairs)))
    ≡ 0xA2 ∷ 0x61 ∷ 0x61 ∷ 0x01 ∷ 0x61 ∷ 0x62 ∷ 0x82 ∷ 0x02 ∷ 0x03 ∷ [])
unfolding shortest_head
nested = (refl, refl, refl)

-- The order of keys by their bytes (RFC 8949, section 4.2.1), on a map of this project's own: "pad", "alg", 0.
keys_by_bytes : deterministic (dict (named (codes "pad") (uint 1) (named (codes "alg") (uint 2) (pair (uint 0) (uint 3) no_pairs))))
    ≡ 0xA3 ∷ 0x00 ∷ 0x03 ∷ 0x63 ∷ 0x61 ∷ 0x6C ∷ 0x67 ∷ 0x02 ∷ 0x63 ∷ 0x70 ∷ 0x61 ∷ 0x64 ∷ 0x01 ∷ []
unfolding shortest_head
keys_by_bytes = refl

-- Fields, by this project's own choice: the first key holds, null counts as absent even where a later key has a value, and
-- what is no map has none.
fields : (field_of (codes "a") (dict (named (codes "a") (simple 22) (named (codes "a") (uint 1) no_pairs))) ≡ None)
    × (field_of (codes "a") (list no_items) ≡ None)
    × (field_of (codes "a") (dict (pair (uint 1) (uint 2) (named (codes "a") (simple 23) no_pairs))) ≡ Some (simple 23))
fields = (refl, refl, refl)
