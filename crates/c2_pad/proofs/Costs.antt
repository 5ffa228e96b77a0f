-- What entries of zero bytes cost, in numbers.
use Rattle.std.proofs.Common.{◌≡◌, ℕ, ◌+◌, List, length, replicate, codes, Some, None, refl, ap, ◌∙◌, arith}
use Rattle.std.proofs.lemmas.List.{length-append, length-replicate}
use Rattle.c2_spec.specs.Cbor.Item.{bytes, text, Pairs, no_pairs}
use Rattle.c2_spec.specs.Cbor.Deterministic.{shortest_head, preferred, preferred_pairs}
use Rattle.c2_pad.specs.Fill.{zeros_before, fill_cost}
use Rattle.c2_spec.proofs.CborHeadLengths.{head_len, length_head}
use Rattle.c2_spec.proofs.CborShared.{length_pair}

-- so many zero bytes as a byte string
length_zeros : (n : ℕ) → length (preferred (bytes (replicate n 0))) ≡ head_len n + n
length_zeros n =
    length-append (shortest_head 2 (length (replicate n 0))) (replicate n 0)
    ∙ ap (λ k. length (shortest_head 2 k) + k) (length-replicate n 0) ∙ ap (λ k. k + n) (length_head 2 n)

-- the first key
length_pad : length (preferred (text (codes "pad"))) ≡ 4
unfolding shortest_head
length_pad = refl

-- the second key
length_pad2 : length (preferred (text (codes "pad2"))) ≡ 5
unfolding shortest_head
length_pad2 = refl

-- an entry of zero bytes and the pairs after it
length_entry : (k : List ℕ) (n : ℕ) (ps : Pairs)
    → length (preferred_pairs (zeros_before k (Some n) ps)) ≡ length (preferred (text k)) + ((head_len n + n) + length (preferred_pairs ps))
length_entry k n ps =
    length_pair (text k) (bytes (replicate n 0)) ps
    ∙ ap (λ z. length (preferred (text k)) + (z + length (preferred_pairs ps))) (length_zeros n)

-- the first entry alone
pub one_cost : (n : ℕ) → fill_cost (record { pad = Some n; pad2 = None }) ≡ 4 + (head_len n + n)
one_cost n = omega (arith, length_entry (codes "pad") n no_pairs, length_pad)

-- what both entries cost
pub two_cost : (n m : ℕ)
    → fill_cost (record { pad = Some n; pad2 = Some m }) ≡ 9 + ((head_len n + n) + (head_len m + m))
two_cost n m =
    let second = zeros_before (codes "pad2") (Some m) no_pairs in
    omega (arith, length_entry (codes "pad") n second, length_entry (codes "pad2") m no_pairs, length_pad, length_pad2)
