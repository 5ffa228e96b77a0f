-- For private clauses: ranges while they are merged.
use Rattle.std.specs.Prelude.{◌≡◌, ℕ, ◌+◌, ◌<◌, ◌≤◌, ⊤, ◌||◌, nat_lt, List, [], ◌∷◌, ◌++◌, take, drop, if◌then◌else◌}
use Rattle.c2_base.specs.declared.values.Range.{Range}
use Rattle.c2_spec.specs.Cover.{holds, is_excluded}
use Rattle.c2_cover.specs.Covers.{AreMerged}

-- the starts rise, from `low` on, and no range ends after `size`
abbrev pub InOrder : ℕ → ℕ → List Range → Type 0
InOrder size low [] = ⊤
InOrder size low (r ∷ rs) = (low ≤ r.start) × (r.start + r.length ≤ size) × InOrder size r.start rs

-- all ranges end before this position
abbrev pub EndBelow : ℕ → List Range → Type 0
EndBelow low [] = ⊤
EndBelow low (r ∷ rs) = (r.start + r.length < low) × EndBelow low rs

-- the ranges with the open one after them, where that isn't empty
abbrev pub with_open : List Range → Range → List Range
with_open ds o = if nat_lt 0 o.length then ds ++ o ∷ [] else ds

-- `done` and the open range exclude what the first `n` of the ranges do, and the others begin at the open range's start or later
pub record Merges (size : ℕ) (ranges : List Range) (n : ℕ) (done : List Range)
    (open_range : Range) : Type 0 where
  pub merged : AreMerged size 0 done
  pub below : EndBelow open_range.start done
  pub inside : open_range.start + open_range.length ≤ size
  pub others : InOrder size open_range.start (drop n ranges)
  pub same : (i : ℕ) → (is_excluded done i || holds i open_range) ≡ is_excluded (take n ranges) i
