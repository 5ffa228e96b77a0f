-- What a walk over segments knows that passes over a range, for private clauses.
use Rattle.std.specs.Prelude.{◌≡◌, ℕ, ◌+◌, ◌-◌, ◌*◌, ◌/◌, ◌%◌, ◌^◌, ◌<◌, ◌≤◌, Bool, true, false, ◌&&◌, ◌==◌, List, [], ◌∷◌, length, drop, nat_le, slice_index, slice_set, bit_or, Option, Some, None}
use Rattle.std.specs.Int.{bit_at}
use Rattle.c2_base.specs.declared.values.Range.{Range}
use Rattle.c2_spec.specs.declared.packets.TheConstants.{LEAST_NUMBER}
use Rattle.c2_spec.specs.Jpeg.Segments.{Segment, HasSegments, EndsSegments, segment_bytes, place_after}
use Rattle.c2_spec.specs.Jpeg.Writing.{is_taken}
use Rattle.c2_jpegseg_segments.specs.declared.numbers.TheConstants.{MARKS_LEN}
use Rattle.c2_jpegseg_segments.specs.declared.packet.Packet.{Packet}

-- what is between two places lies in the range
abbrev pub is_inside : Range → ℕ → ℕ → Bool
is_inside skip from to = nat_le skip.start from && nat_le (to - skip.start) skip.length

-- a segment and those after it, without it where it is passed over
abbrev pub kept_with : Bool → Segment → List Segment → List Segment
kept_with true s ss = ss
kept_with false s ss = s ∷ ss

-- the segments that don't lie in the range, where the first of them begins at a place
abbrev pub kept_from : Range → ℕ → List Segment → List Segment
kept_from skip at [] = []
kept_from skip at (s ∷ ss) = kept_with (is_inside skip at (at + length (segment_bytes s))) s (kept_from skip (at + length (segment_bytes s)) ss)

-- the segments of a file that don't lie in the range
abbrev pub kept : Range → List Segment → List Segment
kept skip segments = kept_from skip 2 segments

-- The walk stands at a place of the file, and this is so of the segments that it has kept.
pub record Passes (file : List ℕ) (skip : Range) (at : ℕ) (State : List Segment → Type 0) : Type 0 where
  pub segments : List Segment
  pub begins : HasSegments file segments (drop at file)
  pub place : at ≡ place_after segments
  pub inside : at ≤ length file
  pub state : State (kept skip segments)

-- whether a number is marked: each has a bit, and there are eight in a byte
unfoldable pub has_mark : List ℕ → ℕ → Bool
has_mark marks n = bit_at (slice_index marks (n / 8)) (n % 8) == 1

-- a mark for each number: whether a packet of these segments has it
pub record Marks (marks : List ℕ) (segments : List Segment) : Type 0 where
  pub sized : length marks ≡ MARKS_LEN
  pub same : (n : ℕ) → n < 2 ^ 16 → has_mark marks n ≡ is_taken segments n

-- the marks with one more, that of a number
unfoldable pub with_mark : ℕ → List ℕ → List ℕ
with_mark n marks = slice_set marks (n / 8) (bit_or (slice_index marks (n / 8)) (1 * 2 ^ (n % 8) % 2 ^ 8))

-- the marks with one more, that of a packet
abbrev pub noted : Option Packet → List ℕ → List ℕ
noted None marks = marks
noted (Some p) marks = with_mark p.en marks

-- the least number without a mark from the least one on, or none where there is none
abbrev pub IsLeastFree : List ℕ → Option ℕ → Type 0
IsLeastFree marks (Some n) = (LEAST_NUMBER ≤ n) × (n < 2 ^ 16) × (has_mark marks n ≡ false) × ((m : ℕ) → LEAST_NUMBER ≤ m → m < n → has_mark marks m ≡ true)
IsLeastFree marks None = (m : ℕ) → LEAST_NUMBER ≤ m → m < 2 ^ 16 → has_mark marks m ≡ true

-- The walk has come to the end of the segments, and this is so of those that it has kept.
pub record HasPassed (file : List ℕ) (skip : Range) (State : List Segment → Type 0) : Type 0 where
  pub at : ℕ
  pub passes : Passes file skip at State
  pub ends : EndsSegments (drop at file)

-- these are the marks of the segments that it has kept
abbrev pub HasMarks : List ℕ → Range → List ℕ → Type 0
HasMarks file skip marks = HasPassed file skip (Marks marks)
