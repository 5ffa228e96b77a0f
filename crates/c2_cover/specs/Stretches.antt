-- For private clauses: what a reader reads next.
use Rattle.std.specs.Prelude.{◌≡◌, ℕ, ◌+◌, ◌-◌, ◌<◌, ◌≤◌, List, [], ◌∷◌, length, take, drop}
use Rattle.std.specs.Int.{w64, to_be_bytes}
use Rattle.c2_base.specs.declared.values.Range.{Range}
use Rattle.c2_spec.specs.Cover.{is_excluded}
use Rattle.c2_cover.specs.Covers.{Reading, AreMerged, rest_of, left_of, kept_count}
use Rattle.c2_cover.specs.BoxOffsets.{AreBoxOffsets, told_from}
use Rattle.c2_cover.specs.declared.offsets.BoxOffset.{BoxOffset}

-- the bytes of a box's start that aren't given yet, where `done` of the 8 are
abbrev pub due_of : ℕ → ℕ → List ℕ
due_of start done = drop done (to_be_bytes w64 start)

-- what a reader at this place has before it
abbrev pub reading : ℕ → ℕ → List Range → List BoxOffset → ℕ → ℕ → Reading
reading size at ranges offsets start done = record {
  size = size;
  at = at;
  ranges = ranges;
  offsets = offsets;
  due = due_of start done;
}

-- This place comes next: no range begins here, and what these ranges leave of the file from here on is what the reader has before it.
pub record IsReadTo (r : Reading) (at : ℕ) (ranges_left : List Range) : Type 0 where
  pub inside : at ≤ r.size
  pub merged : AreMerged r.size (at + 1) ranges_left
  pub offsets : AreBoxOffsets r.size ranges_left at r.offsets
  pub text : (file : List ℕ) → r.size ≤ length file
      → told_from (is_excluded r.ranges) r.offsets r.at file
      ≡ told_from (is_excluded ranges_left) r.offsets at file
  pub left : kept_count (is_excluded r.ranges) r.at (r.size - r.at)
      ≡ kept_count (is_excluded ranges_left) at (r.size - at)

-- The same is still to come, no range begins here, and no box offset does where none is due.
pub record IsReady (old new : Reading) : Type 0 where
  pub size : new.size ≡ old.size
  pub inside : new.at ≤ old.size
  pub merged : AreMerged old.size (new.at + 1) new.ranges
  pub offsets : AreBoxOffsets old.size new.ranges new.at new.offsets
  pub text : (file : List ℕ) → old.size ≤ length file → rest_of old file ≡ rest_of new file
  pub left : left_of old ≡ left_of new
  pub later : length new.due ≡ 0 → AreBoxOffsets old.size new.ranges (new.at + 1) new.offsets

-- where the first of the ranges begins, or the end of the file
abbrev pub range_place : ℕ → List Range → ℕ
range_place size [] = size
range_place size (r ∷ rs) = r.start

-- where the first of the box offsets stands, or the end of the file
abbrev pub offset_place : ℕ → List BoxOffset → ℕ
offset_place size [] = size
offset_place size (w ∷ ws) = w.at

-- the first `n` bytes of the buffer are the first of those that are due, some where there is room, and the rest is as it was
pub record IsGiven (due old new : List ℕ) (n : ℕ) : Type 0 where
  pub bytes : take n new ≡ take n due
  pub room : n ≤ length new
  pub most : n ≤ length due
  pub some : 0 < length old → 0 < n
  pub same_room : length new ≡ length old
