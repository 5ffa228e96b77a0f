-- Worked covers, computed.
use Rattle.std.proofs.Common.{◌≡◌, ℕ, [], ◌∷◌, None, Some, refl}
use Rattle.c2_base.specs.declared.values.Range.{Range}
use Rattle.c2_spec.specs.Cover.{bad_range, covered_count, data_text, excluded_positions, outside_count}

-- A range, written short.
abbrev range : ℕ → ℕ → Range
range start length = record { start = start; length = length }

-- an empty range and ranges that touch rise
touching : bad_range 100 (range 10 5 ∷ range 15 0 ∷ range 15 85 ∷ []) ≡ None
touching = refl

-- a range that begins inside the one before it
overlapping : bad_range 100 (range 10 5 ∷ range 14 1 ∷ []) ≡ Some 1
overlapping = refl

-- a range that ends after the file
too_long : bad_range 100 (range 10 5 ∷ range 15 0 ∷ range 15 86 ∷ []) ≡ Some 2
too_long = refl

-- the first of two wrong ranges
first : bad_range 10 (range 11 0 ∷ range 0 1 ∷ []) ≡ Some 0
first = refl

-- nothing is excluded
whole : data_text [] (7 ∷ 8 ∷ 9 ∷ []) ≡ 7 ∷ 8 ∷ 9 ∷ []
whole = refl

-- the byte at a range's end is covered, and the first byte may be excluded
ends : data_text (range 0 1 ∷ range 2 1 ∷ []) (7 ∷ 8 ∷ 9 ∷ 10 ∷ []) ≡ 8 ∷ 10 ∷ []
ends = refl

-- overlapping ranges exclude a position once, and an empty range none
counted : covered_count (excluded_positions (range 3 2 ∷ range 4 3 ∷ range 1 0 ∷ []) 10) 10 ≡ 6
counted = refl

-- of positions 3 to 6, those outside 4 to 5
outside : outside_count (excluded_positions (range 3 2 ∷ range 4 3 ∷ []) 10) 4 2 ≡ 2
outside = refl
