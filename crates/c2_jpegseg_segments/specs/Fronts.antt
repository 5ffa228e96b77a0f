-- What a walk knows of the APP0 segments at the front of a file, for private clauses.
use Rattle.std.specs.Prelude.{◌≡◌, ℕ, Bool, List, ◌==◌}
use Rattle.std.specs.List.{list_all}
use Rattle.c2_base.specs.declared.values.Range.{Range}
use Rattle.c2_spec.specs.declared.markers.TheConstants.{APP0}
use Rattle.c2_spec.specs.Jpeg.Segments.{Segment}
use Rattle.c2_spec.specs.Jpeg.Writing.{insert_place}
use Rattle.c2_jpegseg_segments.specs.Passing.{HasPassed}
use Rattle.c2_jpegseg_segments.specs.declared.front.Front.{Front}

-- all are APP0 segments
abbrev pub are_app0 : List Segment → Bool
are_app0 segments = list_all (λ s. s.marker == APP0) segments

-- packets go behind this front of these segments
pub record IsFront (front : Front) (segments : List Segment) : Type 0 where
  pub end : front.end ≡ insert_place segments
  pub only : front.only ≡ are_app0 segments

-- the walk has come to the end of the segments, and this is the front of those that it has kept
abbrev pub HasFront : List ℕ → Range → Front → Type 0
HasFront file skip front = HasPassed file skip (IsFront front)
