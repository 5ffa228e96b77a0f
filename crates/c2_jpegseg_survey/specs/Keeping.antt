-- What a walk knows of the segments outside the packets of a store, for private clauses.
use Rattle.std.specs.Prelude.{ℕ, ◌-◌, List, Option, Some, None}
use Rattle.c2_base.specs.declared.values.Range.{Range}
use Rattle.c2_spec.specs.Jpeg.Segments.{Segment}
use Rattle.c2_jpegseg_segments.specs.Fronts.{IsFront}
use Rattle.c2_jpegseg_segments.specs.Passing.{HasPassed, Marks}
use Rattle.c2_jpegseg_segments.specs.Runs.{Collected}
use Rattle.c2_jpegseg_survey.specs.declared.keeping.Kept.{Kept}

-- this is known of these segments
pub record IsKept (k : Kept) (segments : List Segment) : Type 0 where
  pub front : IsFront k.front segments
  pub marks : Marks k.marks segments

-- the walk has come to the end of the segments, and this is known of those outside the range
abbrev pub HasKept : List ℕ → Range → Kept → Type 0
HasKept file skip k = HasPassed file skip (IsKept k)

-- where the packets of a run are; an empty range where none began
abbrev pub run_range : Option Collected → Range
run_range None = record { start = 0; length = 0 }
run_range (Some r) = record { start = r.start; length = r.end - r.start }
