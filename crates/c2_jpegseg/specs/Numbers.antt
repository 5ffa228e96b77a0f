-- What a walk over segments knows of the numbers of their packets, for private clauses.
use Rattle.std.specs.Prelude.{ℕ, Bool, List, [], ◌++◌}
use Rattle.c2_spec.specs.Jpeg.Segments.{Segment}
use Rattle.c2_jpegseg_segments.specs.Passing.{Marks, kept_with}
use Rattle.c2_jpegseg_segments.specs.Segments.{segment_of}
use Rattle.c2_jpegseg_segments.specs.declared.marker.Extent.{Extent}

-- the marks of some segments became those with the segment of an extent, where it isn't passed over
abbrev pub Notes : List ℕ → Extent → Bool → List ℕ → List ℕ → Type 0
Notes file e passed old new = (fill : ℕ) (ss : List Segment) → Marks old ss → Marks new (ss ++ kept_with passed (segment_of fill file e) [])
