-- Which bytes of a media file a hash covers (C2PA Technical Specification 2.x, "Data hash"), as a filter over positions.
use Rattle.std.specs.Prelude.{ℕ, ◌+◌, ◌-◌, nat_le, nat_lt, Bool, not, ◌&&◌, ◌||◌, List, ◌∷◌, Option, length, map, filter}
use Rattle.std.specs.List.{list_any, enumerate_from, position, range_with_len, zip}
use Rattle.c2_base.specs.declared.values.Range.{Range}

-- the position after a range
abbrev pub range_end : Range → ℕ
range_end r = r.start + r.length

-- a range holds a position; one of length 0 holds none
abbrev pub holds : ℕ → Range → Bool
holds i r = nat_le r.start i && nat_lt i (r.start + r.length)

-- some range does
abbrev pub is_excluded : List Range → ℕ → Bool
is_excluded ranges i = list_any (holds i) ranges

-- the bytes at the positions that aren't excluded, in order; the first byte has position `at`
abbrev pub kept_from : (ℕ → Bool) → ℕ → List ℕ → List ℕ
kept_from excludes at bytes = map (λ p. p.1) (filter (λ p. not (excludes p.0)) (enumerate_from at bytes))

-- what a data hash covers that excludes these ranges
abbrev pub data_text : List Range → List ℕ → List ℕ
data_text ranges file = kept_from (is_excluded ranges) 0 file

-- this range overlaps its predecessor (whose end is given beside it), or reaches past the file
abbrev pub is_bad_after : ℕ → ℕ × Range → Bool
is_bad_after size p = nat_lt p.1.start p.0 || nat_lt size (range_end p.1)

-- the index of the first such range, in a file of this size
abbrev pub bad_range : ℕ → List Range → Option ℕ
bad_range size ranges = position (is_bad_after size) (zip (0 ∷ map range_end ranges) ranges)

-- the positions of a file of this size that ranges exclude, in order
abbrev pub excluded_positions : List Range → ℕ → List ℕ
excluded_positions ranges size = filter (is_excluded ranges) (range_with_len 0 size)

-- a position lies outside the range of this start and length
abbrev pub is_outside : ℕ → ℕ → ℕ → Bool
is_outside start len i = nat_lt i start || nat_le (start + len) i

-- how many positions of a file of this size aren't among those that are excluded
abbrev pub covered_count : List ℕ → ℕ → ℕ
covered_count excluded size = size - length excluded

-- how many of the excluded ones lie outside this range
abbrev pub outside_count : List ℕ → ℕ → ℕ → ℕ
outside_count excluded start len = length (filter (is_outside start len) excluded)
