-- Lists of bytes, parts of them, and the numbers that they spell.
use Rattle.std.proofs.Common.{All, List, [], arith, drop, get_or, length, lit<, suc, take, zero, ℕ, ◌+◌, ◌<◌, ◌^◌, ◌∷◌, ◌≡◌, ◌≤◌}
use Rattle.std.proofs.lemmas.List.{get_or-drop, length-drop, length-take-le}
use Rattle.std.proofs.lemmas.List.Elements.{recursion_from_All}
use Rattle.std.proofs.lemmas.Nat.{be_bytes_4, be_bytes_8}
use Rattle.std.specs.Int.{from_be_bytes, to_be_bytes, w32, w64}
use Rattle.std.specs.List.{AllByRecursion}

-- each of the list is a byte; past the end is 0
abbrev pub AreBytes : List ℕ → Type 0
AreBytes xs = (i : ℕ) → get_or xs i 0 < 256

-- members below 2^8 are bytes
pub are_bytes : (xs : List ℕ) → All (λ b. b < 2 ^ 8) xs → AreBytes xs
are_bytes xs h = go xs (recursion_from_All (λ b. b < 2 ^ 8) xs h)
  where
    go : (xs : List ℕ) → AllByRecursion (λ b. b < 2 ^ 8) xs → AreBytes xs
    go [] h i = lit< tt
    go (x ∷ xs) h zero = h.0
    go (x ∷ xs) h (suc i) = go xs h.1 i

-- the first `n` of bytes are bytes
pub bytes-take : (n : ℕ) (xs : List ℕ) → AreBytes xs → AreBytes (take n xs)
bytes-take zero xs h i = lit< tt
bytes-take (suc n) [] h i = lit< tt
bytes-take (suc n) (x ∷ xs) h zero = h 0
bytes-take (suc n) (x ∷ xs) h (suc i) = bytes-take n xs (λ k. h (suc k)) i

-- what is left of bytes behind the first `n` is bytes
pub bytes-drop : (n : ℕ) (xs : List ℕ) → AreBytes xs → AreBytes (drop n xs)
bytes-drop n xs h i = rw (get_or-drop n xs i 0) (h (n + i))

-- a number that was read of four bytes is spelled by them
pub spell_4 : (xs : List ℕ) (at n : ℕ) → AreBytes xs → at + 4 ≤ length xs
    → n ≡ from_be_bytes w32 (take 4 (drop at xs)) → to_be_bytes w32 n ≡ take 4 (drop at xs)
spell_4 xs at n h inside e =
    be_bytes_4 (take 4 (drop at xs)) n (length-take-le 4 (drop at xs) (omega (arith, length-drop at xs)))
    (bytes-take 4 (drop at xs) (bytes-drop at xs h)) e

-- a number that was read of eight bytes is spelled by them
pub spell_8 : (xs : List ℕ) (at n : ℕ) → AreBytes xs → at + 8 ≤ length xs
    → n ≡ from_be_bytes w64 (take 8 (drop at xs)) → to_be_bytes w64 n ≡ take 8 (drop at xs)
spell_8 xs at n h inside e =
    be_bytes_8 (take 8 (drop at xs)) n (length-take-le 8 (drop at xs) (omega (arith, length-drop at xs)))
    (bytes-take 8 (drop at xs) (bytes-drop at xs h)) e

-- the number that four bytes spell is below 2^32
pub small_4 : (xs : List ℕ) → AreBytes xs → from_be_bytes w32 xs < 2 ^ 32
small_4 xs h = omega (arith, h 0, h 1, h 2, h 3)
