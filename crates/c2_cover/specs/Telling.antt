-- For private clauses: the box offsets of a cover while they are made.
use Rattle.std.specs.Prelude.{◌≡◌, ℕ, ◌+◌, ◌-◌, ◌≤◌, ⊤, nat_le, Bool, List, [], ◌∷◌, take, drop, if◌then◌else◌}
use Rattle.c2_base.specs.declared.values.Range.{Range}
use Rattle.c2_bmff_rows.specs.declared.row.RootBox.{RootBox}
use Rattle.c2_spec.specs.Cover.{is_excluded}
use Rattle.c2_cover.specs.Covers.{Covered, AreMerged, IsCoverOf}
use Rattle.c2_cover.specs.BoxOffsets.{AreBoxOffsets, offsets_of}
use Rattle.c2_cover.specs.declared.offsets.BoxOffset.{BoxOffset}

-- the ranges from the first on that ends after this position
abbrev pub ending_after : ℕ → List Range → List Range
ending_after at [] = []
ending_after at (r ∷ rs) = if nat_le (r.start + r.length) at then ending_after at rs else r ∷ rs

-- how many positions from this one on the first of the ranges excludes: none where it begins later
abbrev pub skipped : ℕ → List Range → ℕ
skipped at [] = 0
skipped at (r ∷ rs) = if nat_le r.start at then r.length - (at - r.start) else 0

-- each of these boxes begins where the one before it ends, from `low` on
abbrev pub Follow : ℕ → List RootBox → Type 0
Follow low [] = ⊤
Follow low (r ∷ rs) = (r.start ≡ low) × Follow (low + r.length) rs

-- no box offset stands after this position
abbrev pub StandBy : ℕ → List BoxOffset → Type 0
StandBy low [] = ⊤
StandBy low (w ∷ ws) = (w.at ≤ low) × StandBy low ws

-- These are the box offsets of the first `n` root boxes, and the next one begins at `low` or later.
pub record TellsAll (excludes : ℕ → Bool) (rows : List RootBox) (n low : ℕ) (offsets : List BoxOffset) : Type
    0 where
  pub from : ℕ
  pub follow : Follow from (drop n rows)
  pub later : low ≤ from
  pub are : offsets ≡ offsets_of excludes (take n rows)

-- Words of the first `n` root boxes, and of all where each begins at the end of the one before it; from `low` on the ranges ahead
-- exclude what all do.
pub record TellsTo (size : ℕ) (ranges : List Range) (rows : List RootBox) (n : ℕ)
    (ranges_left : List Range) (low : ℕ) (offsets : List BoxOffset) : Type 0 where
  pub merged : AreMerged size 0 ranges_left
  pub same : (i : ℕ) → low ≤ i → is_excluded ranges_left i ≡ is_excluded ranges i
  pub rise : AreBoxOffsets size ranges 0 offsets
  pub by : StandBy low offsets
  pub all : Follow 0 rows → TellsAll (is_excluded ranges) rows n low offsets

-- the cover with box offsets of these root boxes, and of all where each begins at the end of the one before it
pub record IsToldBy (rows : List RootBox) (c d : Covered) : Type 0 where
  pub size : d.size ≡ c.size
  pub ranges : d.ranges ≡ c.ranges
  pub rise : AreBoxOffsets d.size d.ranges 0 d.offsets
  pub all : Follow 0 rows → d.offsets ≡ offsets_of (is_excluded c.ranges) rows

-- the cover of a file of this size that leaves out these ranges, with box offsets of these root boxes
pub record IsToldCover (size : ℕ) (ranges : List Range) (rows : List RootBox) (d : Covered) : Type 0 where
  pub bare : Covered
  pub cover : IsCoverOf size ranges bare
  pub told : IsToldBy rows bare d
