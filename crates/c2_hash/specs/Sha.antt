-- SHA-256, SHA-384 and SHA-512 (FIPS 180-4).
use Rattle.std.specs.Prelude.{◌≡◌, ℕ, zero, suc, ◌<◌, ◌%◌, ◌^◌, List, All, slice_index}
use Rattle.std.specs.Int.{w32, w64, to_be_bytes}
use Rattle.std.proofs.lemmas.List.Elements.{All-append, All-nil, All-take, All-from_recursion}
use Rattle.std.proofs.lemmas.Nat.{mod_below}
use Rattle.std.proofs.Common.{lit<}
use Rattle.sha2.specs.Sha256.{sha256, digest_bytes}
use Rattle.sha2.specs.Sha512.{sha384, sha512}
use Rattle.sha2.specs.Sha512 as long
use Rattle.sha2.specs.Hashers.{Holds256, Holds384, Holds512}
use Rattle.sha2.proofs.Facts256.{length-sha256}
use Rattle.sha2.proofs.Facts512.{length-sha384, length-sha512}
use Rattle.c2_spec.specs.declared.digest.Alg.{Alg}
use Rattle.c2_spec.specs.declared.digest.Alg.TheVariants.{Sha256, Sha384, Sha512}
use Rattle.c2_spec.specs.Digest.{IsDigest}
use Rattle.c2_hash.specs.declared.hashing.ShaState.{ShaState}
use Rattle.c2_hash.specs.declared.hashing.ShaState.TheVariants as state

-- the digest of a list
abbrev pub sha_digest : Alg → List ℕ → List ℕ
sha_digest Sha256 list = sha256 list
sha_digest Sha384 list = sha384 list
sha_digest Sha512 list = sha512 list

-- a running hash stands for its algorithm and this list
abbrev pub ShaHolds : ShaState → Alg → List ℕ → Type 0
ShaHolds (state.Sha256 s) alg list = (alg ≡ Sha256) × Holds256 s list
ShaHolds (state.Sha384 s) alg list = (alg ≡ Sha384) × Holds384 s list
ShaHolds (state.Sha512 s) alg list = (alg ≡ Sha512) × Holds512 s list

-- ---- a digest is made of bytes

-- the last eight bits of a number are a byte
low_bits : (n : ℕ) → n % 2 ^ 8 < 2 ^ 8
low_bits n = mod_below n (2 ^ 8) (lit< tt)

-- the four bytes of a word are bytes
word_bytes : (n : ℕ) → All (λ b. b < 2 ^ 8) (to_be_bytes w32 n)
word_bytes n = All-from_recursion (λ b. b < 2 ^ 8) (to_be_bytes w32 n) (low_bits _, (low_bits _, (low_bits _, (low_bits n, tt))))

-- the eight bytes of a long word are bytes
long_word_bytes : (n : ℕ) → All (λ b. b < 2 ^ 8) (to_be_bytes w64 n)
long_word_bytes n =
    All-from_recursion (λ b. b < 2 ^ 8) (to_be_bytes w64 n)
    (low_bits _, (low_bits _, (low_bits _, (low_bits _, (low_bits _, (low_bits _, (low_bits _, (low_bits n, tt))))))))

-- all numbers of a digest in words are bytes
digest_bytes-All : (h : List ℕ) (n : ℕ) → All (λ b. b < 2 ^ 8) (digest_bytes h n)
unfolding digest_bytes
digest_bytes-All h zero = All-nil (λ b. b < 2 ^ 8)
digest_bytes-All h (suc n) = All-append (λ b. b < 2 ^ 8) (digest_bytes h n) (to_be_bytes w32 (slice_index h n)) (digest_bytes-All h n) (word_bytes (slice_index h n))

-- all numbers of a digest in long words are bytes
long_bytes-All : (h : List ℕ) (n : ℕ) → All (λ b. b < 2 ^ 8) (long.digest_bytes h n)
unfolding long.digest_bytes
long_bytes-All h zero = All-nil (λ b. b < 2 ^ 8)
long_bytes-All h (suc n) = All-append (λ b. b < 2 ^ 8) (long.digest_bytes h n) (to_be_bytes w64 (slice_index h n)) (long_bytes-All h n) (long_word_bytes (slice_index h n))

-- a digest has the length that its algorithm says, and is made of bytes
pub sha-IsDigest : (alg : Alg) (list : List ℕ) → IsDigest alg (sha_digest alg list)
unfolding sha256 sha384 sha512
sha-IsDigest Sha256 list = record { sized = length-sha256 list; bytes = digest_bytes-All _ 8 }
sha-IsDigest Sha384 list = record { sized = length-sha384 list; bytes = All-take (λ b. b < 2 ^ 8) 48 _ (long_bytes-All _ 8) }
sha-IsDigest Sha512 list = record { sized = length-sha512 list; bytes = long_bytes-All _ 8 }
