-- What is written as a short text is that text.
use Rattle.std.proofs.Common.{◌≡◌, ◌⊎◌, inl, inr, ℕ, ◌+◌, ◌*◌, ◌<◌, ◌≤◌, Bool, true, false, cond, ltb, List, [], ◌∷◌, ◌++◌, length, append-nil, refl, sym, ap, ◌∙◌, arith}
use Rattle.std.specs.Int.{w16, w32, w64, to_be_bytes}
use Rattle.std.proofs.lemmas.Bool.{lt-ltb, ltb-true}
use Rattle.c2_spec.specs.Cbor.Item.{Item, uint, nint, bytes, text, list, dict, tag, simple, half, single, double}
use Rattle.c2_spec.specs.Cbor.Deterministic.{shortest_head, simple_bytes, preferred, deterministic}

-- the first byte of a list, and 0 where there is none
first : List ℕ → ℕ
first [] = 0
first (b ∷ bs) = b

-- the first byte of a head with the major type m: below 24 the argument is in it
abbrev FirstIs : ℕ → ℕ → ℕ → Type 0
FirstIs m n b = ((n < 24) × (b ≡ 32 * m + n)) ⊎ ((32 * m + 24 ≤ b) × (b ≤ 32 * m + 27))

-- each head has such a first byte, whatever follows
head_first : (m n : ℕ) (more : List ℕ) → FirstIs m n (first (shortest_head m n ++ more))
unfolding first shortest_head
head_first m n more = by_tests (ltb n 24) (ltb n 256) (ltb n 65536) (ltb n 4294967296) refl
  where
    by_tests : (a b c d : Bool) → ltb n 24 ≡ a
        → FirstIs m n (first (cond a ((32 * m + n) ∷ []) (cond b ((32 * m + 24) ∷ n ∷ []) (cond c ((32 * m + 25) ∷ to_be_bytes w16 n) (cond d ((32 * m + 26) ∷ to_be_bytes w32 n) ((32 * m + 27) ∷ to_be_bytes w64 n)))) ++ more))
    by_tests true b c d is = inl (ltb-true n 24 is, refl)
    by_tests false true c d is = inr (omega arith, omega arith)
    by_tests false false true d is = inr (omega arith, omega arith)
    by_tests false false false true is = inr (omega arith, omega arith)
    by_tests false false false false is = inr (omega arith, omega arith)

-- a short text begins with its length
text_first : (t : List ℕ) → length t < 24 → preferred (text t) ≡ (96 + length t) ∷ t
unfolding shortest_head
text_first t short = rw (lt-ltb (length t) 24 short)

-- no head of another major type begins as a short text does
other_head : (m n l : ℕ) (more : List ℕ) (t : List ℕ) → l < 24 → (m ≡ 3 → ⊥) → shortest_head m n ++ more ≡ (96 + l) ∷ t
    → ⊥
unfolding first
other_head m n l more t short other e = elim (head_first m n more) [
  | inl h ↦ other (omega (arith, h.0, h.1, ap first e, short))
  | inr h ↦ other (omega (arith, h.0, h.1, ap first e, short))
]

-- no simple value begins so
other_simple : (a l : ℕ) (t : List ℕ) → l < 24 → simple_bytes a ≡ (96 + l) ∷ t → ⊥
unfolding first
other_simple a l t short = by_test (ltb a 24)
  where
    by_test : (b : Bool) → cond b ((224 + a) ∷ []) (248 ∷ a ∷ []) ≡ (96 + l) ∷ t → ⊥
    by_test true e = omega (arith, ap first e, short)
    by_test false e = omega (arith, ap first e, short)

-- a text that is written as a short text is that text
text_is : (s t : List ℕ) → length t < 24 → preferred (text s) ≡ (96 + length t) ∷ t → s ≡ t
unfolding first
text_is s t short e = elim (head_first 3 (length s) s) [
  | inl h ↦ let same = sym (text_first s h.0) ∙ e in cc (same)
  | inr h ↦ absurd (omega (arith, h.0, ap first e, short))
]

-- an item that is written as a short text, is that text
item_is : (k : Item) (t : List ℕ) → length t < 24 → deterministic k ≡ (96 + length t) ∷ t → k ≡ text t
unfolding first
item_is (uint n) t short e =
    absurd (other_head 0 n (length t) [] t short (λ no. omega (arith, no)) (append-nil (shortest_head 0 n) ∙ e))
item_is (nint n) t short e =
    absurd (other_head 1 n (length t) [] t short (λ no. omega (arith, no)) (append-nil (shortest_head 1 n) ∙ e))
item_is (bytes b) t short e = absurd (other_head 2 (length b) (length t) b t short (λ no. omega (arith, no)) e)
item_is (text s) t short e = ap text (text_is s t short e)
item_is (list vs) t short e = absurd (other_head 4 _ (length t) _ t short (λ no. omega (arith, no)) e)
item_is (dict ps) t short e = absurd (other_head 5 _ (length t) _ t short (λ no. omega (arith, no)) e)
item_is (tag n v) t short e = absurd (other_head 6 n (length t) _ t short (λ no. omega (arith, no)) e)
item_is (simple a) t short e = absurd (other_simple a (length t) t short e)
item_is (half n) t short e = absurd (omega (arith, ap first e, short))
item_is (single n) t short e = absurd (omega (arith, ap first e, short))
item_is (double n) t short e = absurd (omega (arith, ap first e, short))

-- other items than a short text are written otherwise
pub other_bytes : (k : Item) (t : List ℕ) → length t < 24 → (k ≡ text t → ⊥) → deterministic k ≡ deterministic (text t)
    → ⊥
other_bytes k t short other e = other (item_is k t short (e ∙ text_first t short))
