-- A digest in 64 bytes: the bytes behind its length are zeros.
use Rattle.std.specs.Prelude.{◌≡◌, ℕ, ◌-◌, ◌≤◌, List, ◌++◌, length, take, replicate}
use Rattle.std.proofs.Common.{arith}
use Rattle.std.proofs.lemmas.List.{length-take-le}
use Rattle.c2_spec.specs.Digest.{most_digest_len}

-- the list, and then as many zeros as there is room for
abbrev pub padded : List ℕ → List ℕ
padded list = list ++ replicate (most_digest_len - length list) 0

-- The bytes are a list of this length, padded.
pub record IsPadded (bytes : List ℕ) (len : ℕ) : Type 0 where
  pub room : length bytes ≡ most_digest_len
  pub fits : len ≤ most_digest_len
  pub zeros : bytes ≡ padded (take len bytes)

-- the list is of this length
pub length_back : (bytes : List ℕ) (len : ℕ) → IsPadded bytes len → length (take len bytes) ≡ len
length_back bytes len h = length-take-le len bytes (omega (arith, h.room, h.fits))
