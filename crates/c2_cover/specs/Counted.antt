-- For private clauses: counts of positions.
use Rattle.std.specs.Prelude.{◌≡◌, ◌-◌, ◌≤◌, drop, ℕ, ◌+◌, nat_lt, nat_le, Bool, ◌&&◌, ◌||◌, List, length, filter}
use Rattle.std.specs.List.{range_with_len}
use Rattle.c2_base.specs.declared.values.Range.{Range}
use Rattle.c2_spec.specs.Cover.{is_excluded}
use Rattle.c2_cover.specs.Covers.{AreMerged, kept_count}

-- how many of the `n` positions from `at` on pass
abbrev pub passing : (ℕ → Bool) → ℕ → ℕ → ℕ
passing p at n = length (filter p (range_with_len at n))

-- a position lies before `start`, or at `end` or later
abbrev pub is_out : ℕ → ℕ → ℕ → Bool
is_out start end i = nat_lt i start || nat_le end i

-- a position is excluded, and lies before `start`, or at `end` or later
abbrev pub is_excluded_out : List Range → ℕ → ℕ → ℕ → Bool
is_excluded_out ranges start end i = is_excluded ranges i && is_out start end i

-- `count` of the positions before `at` are covered; the first `n` ranges end at `at` or before
pub record CountsTo (size : ℕ) (ranges : List Range) (n at count : ℕ) : Type 0 where
  pub inside : at ≤ size
  pub small : count ≤ at
  pub others : AreMerged size at (drop n ranges)
  pub counted : count + kept_count (is_excluded (drop n ranges)) at (size - at)
      ≡ kept_count (is_excluded ranges) 0 size

-- `count` positions of the first `n` ranges lie outside
pub record CountsOutside (size : ℕ) (ranges : List Range) (start end n count : ℕ) : Type 0 where
  pub others : AreMerged size 0 (drop n ranges)
  pub counted : count + passing (is_excluded_out (drop n ranges) start end) 0 size
      ≡ passing (is_excluded_out ranges start end) 0 size
