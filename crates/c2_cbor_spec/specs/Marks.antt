-- Keys of a map as bytes, each with the eight bytes after those that all share and with its number, and their order.
use Rattle.std.specs.Prelude.{◌≡◌, ◌<◌, ◌≤◌, ℕ, suc, min, List, [], ◌∷◌, ◌++◌, map, length, drop, Option, Some, None, slice_index, slice_index_or, IsPermutation, IsSorted}
use denote.Ref.{Bor}
use Rattle.std.specs.Int.{w64, from_be_bytes}
use Rattle.std.specs.Ordering.{nat_cmp, ordering_then}
use Rattle.std.specs.declared.cmp.Ordering.{Ordering}
use Rattle.std.specs.Cmp.Lexicographic.{slice_cmp}

-- ---- keys in one list of bytes

-- the keys one after the other
abbrev pub flat : List (List ℕ) → List ℕ
flat [] = []
flat (k ∷ ks) = k ++ flat ks

-- how long each is
abbrev pub lengths : List (List ℕ) → List ℕ
lengths ks = map (λ k. length k) ks

-- the keys stand in the bytes one after the other, and have these lengths
pub record StandIn (ks : List (List ℕ)) (bytes lens : List ℕ) : Type 0 where
  pub flat : bytes ≡ flat ks
  pub lengths : lens ≡ lengths ks

-- all are below 256
abbrev pub Bytes : List ℕ → Type 0
Bytes k = (i : ℕ) → slice_index k i < 256

-- those of each key are
abbrev pub AllBytes : List (List ℕ) → Type 0
AllBytes [] = Unit {0}
AllBytes (k ∷ ks) = Bytes k × AllBytes ks

-- ---- what all keys share

-- the first n bytes agree, where zeros follow the end
abbrev pub AgreeBelow : ℕ → List ℕ → List ℕ → Type 0
AgreeBelow n a k = (i : ℕ) → i < n → slice_index a i ≡ slice_index k i

-- each key agrees so with a
abbrev pub AllAgree : ℕ → List ℕ → List (List ℕ) → Type 0
AllAgree n a [] = Unit {0}
AllAgree n a (k ∷ ks) = AgreeBelow n a k × AllAgree n a ks

-- all keys have the same first n bytes
abbrev pub SharesFront : ℕ → List (List ℕ) → Type 0
SharesFront n ks = (a : List ℕ) × AllAgree n a ks

-- ---- marks

-- the first eight bytes as a number, where zeros follow the end
abbrev pub front_of : List ℕ → ℕ
front_of k = from_be_bytes w64 (slice_index k 0 ∷ slice_index k 1 ∷ slice_index k 2 ∷ slice_index k 3 ∷ slice_index k 4 ∷ slice_index k 5 ∷ slice_index k 6 ∷ slice_index k 7 ∷ [])

-- the eight bytes after these
abbrev pub front_after : ℕ → List ℕ → ℕ
front_after skip k = front_of (drop skip k)

-- such a number, a key, and the key's own number
abbrev pub Mark : Type 0
Mark = ℕ × List ℕ × ℕ

-- a mark whose key is lent
abbrev pub mark_of : ℕ × Bor (List ℕ) × ℕ → Mark
mark_of m = (m.0, m.1.now, m.2)

-- the marks whose keys are lent
abbrev pub marks : List (ℕ × Bor (List ℕ) × ℕ) → List Mark
marks ms = map mark_of ms

-- the keys' marks, with numbers from i on
abbrev pub numbered : ℕ → ℕ → List (List ℕ) → List Mark
numbered skip i [] = []
numbered skip i (k ∷ ks) = (front_after skip k, k, i) ∷ numbered skip (suc i) ks

-- by the eight bytes, then the key, then the number
abbrev pub mark_cmp : Mark → Mark → Ordering
mark_cmp x y = ordering_then (ordering_then (nat_cmp x.0 y.0) (slice_cmp nat_cmp x.1 y.1)) (nat_cmp x.2 y.2)

-- ms are the marks of these keys, sorted
pub record IsKeyOrder (ks : List (List ℕ)) (ms : List Mark) : Type 0 where
  pub skip : ℕ
  pub shared : SharesFront skip ks
  pub bytes : AllBytes ks
  pub moved : IsPermutation (numbered skip 0 ks) ms
  pub up : IsSorted mark_cmp ms

-- ---- equal keys

-- the mark at a place
abbrev pub mark_at : List Mark → ℕ → Mark
mark_at ms i = slice_index_or ms i (0, [], 0)

-- y has x's key, and a greater number
abbrev pub Repeats : Mark → Mark → Type 0
Repeats x y = (x.0 ≡ y.0) × (x.1 ≡ y.1) × (x.2 < y.2)

-- the one after the i-th repeats it
abbrev pub RepeatsAt : List Mark → ℕ → Type 0
RepeatsAt ms i = Repeats (mark_at ms i) (mark_at ms (suc i))

-- the least number of those that repeat the one before them, of the first n
abbrev pub LeastRepeated : List Mark → ℕ → Option ℕ → Type 0
LeastRepeated ms n None = (i : ℕ) → suc i < n → RepeatsAt ms i → ⊥
LeastRepeated ms n (Some j) = ((i : ℕ) × (suc i < n) × RepeatsAt ms i × (j ≡ (mark_at ms (suc i)).2)) × ((i : ℕ) → suc i < n → RepeatsAt ms i → j ≤ (mark_at ms (suc i)).2)

-- the lesser of the two
abbrev pub lesser_of : Option ℕ → ℕ → ℕ
lesser_of None n = n
lesser_of (Some m) n = min m n
