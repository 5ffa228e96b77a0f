-- What the walk knows of the segments before its place, for private clauses.
use Rattle.std.specs.Prelude.{◌≡◌, ◌<◌, ◌≤◌, ℕ, true, false, List, [], ◌∷◌, ◌++◌, length, drop, Option, Some, None}
use Rattle.std.specs.List.{AllByRecursion}
use Rattle.c2_base.specs.declared.limits.TheConstants.{MAX_STORE_LEN}
use Rattle.c2_base.specs.declared.media.MediaError.{MediaError}
use Rattle.c2_spec.specs.Jpeg.Segments.{Segment, HasSegments, place_after}
use Rattle.c2_spec.specs.Jpeg.Packets.{IsPacketRun, packet_in, is_store_start, is_stray, stated_length}
use Rattle.c2_spec.specs.Jpeg.Store.{NoneBegins, SegmentFault}
use Rattle.c2_jpegseg_segments.specs.declared.marker.Extent.{Extent}
use Rattle.c2_jpegseg_segments.specs.declared.packet.Packet.{Packet}
use Rattle.c2_jpegseg_segments.specs.Causes.{OrJpegFault}
use Rattle.c2_jpegseg_segments.specs.Packets.{PacketOf}
use Rattle.c2_jpegseg_segments.specs.Runs.{Collected}
use Rattle.c2_jpegseg_segments.specs.Segments.{IsExtent}

-- The run is the store's so far, among these segments.
pub record IsRunOf (segments : List Segment) (r : Collected) : Type 0 where
  pub before : List Segment
  pub first : Segment
  pub others : List Segment
  pub after : List Segment
  pub split : segments ≡ before ++ (first ∷ others ++ after)
  pub starts : is_store_start first ≡ true
  pub is_run : IsPacketRun first others r.store
  pub fits : length r.store ≤ r.total
  pub total : r.total ≡ stated_length (packet_in first).header
  pub small : r.total ≤ MAX_STORE_LEN
  pub none_before : NoneBegins before
  pub none_after : NoneBegins after
  pub no_stray : AllByRecursion (λ s. is_stray (packet_in first).en s ≡ false) after
  pub closed : length r.store < r.total → after ≡ []
  pub from : r.start ≡ place_after before
  pub to : r.end ≡ place_after (before ++ (first ∷ others))
  pub en : r.en ≡ (packet_in first).en
  pub header : r.header ≡ (packet_in first).header
  pub count : r.count ≡ length (first ∷ others)

-- what the walk holds of these segments: no run where no store began
abbrev pub IsState : List Segment → Option Collected → Type 0
IsState segments None = NoneBegins segments
IsState segments (Some r) = IsRunOf segments r

-- The walk stands at a place: the segments before it have no fault, and their store is the run.
pub record Walks (file : List ℕ) (at : ℕ) (run : Option Collected) : Type 0 where
  pub segments : List Segment
  pub begins : HasSegments file segments (drop at file)
  pub place : at ≡ place_after segments
  pub inside : at ≤ length file
  pub state : IsState segments run

-- A segment stands at the walk's place, ends at another one, and is this packet, if it is one.
pub record Stands (file : List ℕ) (at end : ℕ) (packet : Option Packet) (run : Option Collected) : Type 0 where
  pub extent : Extent
  pub walks : Walks file at run
  pub stands : IsExtent file at extent
  pub ends : extent.end ≡ end
  pub packet_is : PacketOf file extent packet

-- In any file where the segment stands at the walk's place: the walk goes on to the segment's end, with this run.
abbrev pub StepsTo : ℕ → ℕ → Option Packet → Option Collected → Option Collected → Type 0
StepsTo at end packet run new = (file : List ℕ) → Stands file at end packet run → Walks file end new

-- In any such file the error is the first fault of the segments.
abbrev pub StepFails : ℕ → ℕ → Option Packet → Option Collected → MediaError → Type 0
StepFails at end packet run e = (file : List ℕ) → Stands file at end packet run → OrJpegFault e (SegmentFault file e)
