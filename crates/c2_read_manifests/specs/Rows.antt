-- For private clauses: rows of bits that say what is reached.
use Rattle.std.specs.Prelude.{◌≡◌, ℕ, ◌<◌, ◌||◌, nat_eq, Bool, false, List, [], length, map, slice_index_or}
use Rattle.std.specs.List.{list_any, range_with_len}
use Rattle.c2_rules.specs.Chains.{reaches}
use Rattle.c2_rules.specs.Readings.{Reading}

-- the bit of row `n` at place `m`
abbrev pub bit : List (List Bool) → ℕ → ℕ → Bool
bit rows n m = slice_index_or (slice_index_or rows n []) m false

-- a place is one of these children, or the row of one of them has it
abbrev pub is_below : List (List Bool) → List ℕ → ℕ → Bool
is_below rows children m = list_any (λ c. nat_eq c m || bit rows c m) children

-- the row of a manifest with these children, with so many bits
abbrev pub row_bits : List (List Bool) → List ℕ → ℕ → List Bool
row_bits rows children count = map (λ (m : ℕ). is_below rows children m) (range_with_len 0 count)

-- The first `k` rows: each bit says whether its place is reached from that of the row.
pub record AreRowsBelow (rs : List Reading) (k : ℕ) (rows : List (List Bool)) : Type 0 where
  pub count : length rows ≡ k
  pub says : (n m : ℕ) → n < k → m < length rs → bit rows n m ≡ reaches rs n m

-- one row for each manifest
abbrev pub AreRows : List Reading → List (List Bool) → Type 0
AreRows rs rows = AreRowsBelow rs (length rs) rows
