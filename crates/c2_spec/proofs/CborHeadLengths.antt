-- How many bytes the shortest head of an item of CBOR has.
use Rattle.c2_spec.specs.Cbor.Deterministic.{shortest_head}
use Rattle.std.proofs.Common.{Bool, [], ap, cond, false, length, lt-ltb, ltb, refl, true, ℕ, ◌*◌, ◌+◌, ◌<◌, ◌∷◌, ◌≡◌}
use Rattle.std.specs.Int.{to_be_bytes, w16, w32, w64}

-- the length of the head of so many bytes
abbrev pub head_len : ℕ → ℕ
head_len n = cond (ltb n 24) 1 (cond (ltb n 256) 2 (cond (ltb n 65536) 3 (cond (ltb n 4294967296) 5 9)))

-- a shortest head has that length
pub length_head : (m n : ℕ) → length (shortest_head m n) ≡ head_len n
unfolding shortest_head
length_head m n = by_tests (ltb n 24) (ltb n 256) (ltb n 65536) (ltb n 4294967296)
  where
    by_tests : (a b c d : Bool)
        → length (cond a ((32 * m + n) ∷ []) (cond b ((32 * m + 24) ∷ n ∷ []) (cond c ((32 * m + 25) ∷ to_be_bytes w16 n) (cond d ((32 * m + 26) ∷ to_be_bytes w32 n) ((32 * m + 27) ∷ to_be_bytes w64 n)))))
        ≡ cond a 1 (cond b 2 (cond c 3 (cond d 5 9)))
    by_tests true b c d = refl
    by_tests false true c d = refl
    by_tests false false true d = refl
    by_tests false false false true = refl
    by_tests false false false false = refl

-- the head of a number below 24 has one byte
pub head_short : (n : ℕ) → n < 24 → head_len n ≡ 1
head_short n h =
    ap (λ b. cond b 1 (cond (ltb n 256) 2 (cond (ltb n 65536) 3 (cond (ltb n 4294967296) 5 9)))) (lt-ltb n 24 h)
