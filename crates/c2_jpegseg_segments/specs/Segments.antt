-- What the walk over a JPEG file knows at a place, for private clauses.
use Rattle.std.specs.Prelude.{◌≡◌, ℕ, ◌+◌, ◌-◌, ◌*◌, ◌<◌, ◌≤◌, ◌⊎◌, ⊤, true, false, List, ◌++◌, length, take, drop, replicate, slice_index, OnOk, IfOk, IfErr, Option, Some, None, Result, Ok, Err}
use Rattle.std.specs.Option.{ForSome}
use Rattle.c2_base.specs.declared.media.MediaError.{MediaError}
use Rattle.c2_base.specs.declared.media.MediaError.TheVariants.{Truncated, BadMarker, BadSegment, ReadFault}
use Rattle.c2_spec.specs.declared.markers.TheConstants.{FILL, SOI, EOI, SOS}
use Rattle.c2_spec.specs.Jpeg.Segments.{Segment, IsSegment, EndsSegments, MarkerFault, segment_bytes, is_segment_marker, is_alone}
use Rattle.c2_jpegseg_segments.specs.Causes.{IsJpegCaused, OrJpegFault}
use Rattle.c2_jpegseg_segments.specs.declared.marker.Extent.{Extent}
use Rattle.c2_jpegseg_segments.specs.declared.marker.Kind.{Kind}
use Rattle.c2_jpegseg_segments.specs.declared.marker.Kind.TheVariants as kind
use Rattle.c2_jpegseg_segments.specs.declared.marker.Marker.{Marker}
use Rattle.c2_jpegseg_segments.specs.declared.marker.Next.{Next}
use Rattle.c2_jpegseg_segments.specs.declared.marker.Next.TheVariants as next

-- the segment that an extent of the file shows
abbrev pub segment_of : ℕ → List ℕ → Extent → Segment
segment_of fill file e = record { fill = fill; marker = e.marker; payload = take (e.end - e.body) (drop e.body file) }

-- A segment stands at a place.
pub record IsExtent (file : List ℕ) (at : ℕ) (e : Extent) : Type 0 where
  pub fill : ℕ
  pub later : at < e.end
  pub inside : e.end ≤ length file
  pub ordered : e.body ≤ e.end
  pub legal : IsSegment (segment_of fill file e)
  pub bytes : drop at file ≡ segment_bytes (segment_of fill file e) ++ drop e.end file

-- what a marker byte other than FF says
abbrev pub IsKind : ℕ → Kind → Type 0
IsKind m kind.Bad = (m ≡ 0) ⊎ (m ≡ SOI)
IsKind m kind.End = (m ≡ EOI) ⊎ (m ≡ SOS)
IsKind m kind.Alone = (is_segment_marker m ≡ true) × (is_alone m ≡ true)
IsKind m kind.Sized = (is_segment_marker m ≡ true) × (is_alone m ≡ false)

-- nothing but fill is before a marker
pub record IsMarkerAt (file : List ℕ) (at : ℕ) (m : Marker) : Type 0 where
  pub fill : drop at file ≡ replicate (m.place - at) FILL ++ drop m.place file
  pub code : m.code ≡ slice_index file m.place

-- the first byte other than FF from a place on, if there is one
abbrev pub IsMarkerFrom : List ℕ → ℕ → Option Marker → Type 0
IsMarkerFrom file at (Some m) = IsMarkerAt file at m
IsMarkerFrom file at None = drop at file ≡ replicate (length file - at) FILL

-- the same of a file, where it is known
abbrev pub FindsMarker : Option (List ℕ) → ℕ → Option Marker → Type 0
FindsMarker known at found = ForSome known (λ file. IsMarkerFrom file at found)

-- the length that two bytes after a marker give
abbrev pub length_at : List ℕ → ℕ → ℕ
length_at file q = slice_index file (q + 1) * 256 + slice_index file (q + 2)

-- the extent of a segment whose marker has a length
abbrev pub sized_extent : List ℕ → Marker → Extent
sized_extent file m = record { marker = m.code; body = m.place + 3; end = m.place + 1 + length_at file m.place }

-- the extent is that one, and its bytes are there
pub record IsSized (file : List ℕ) (m : Marker) (e : Extent) : Type 0 where
  pub is : e ≡ sized_extent file m
  pub high : slice_index file (m.place + 1) < 256
  pub low : slice_index file (m.place + 2) < 256
  pub least : 2 ≤ length_at file m.place
  pub inside : m.place + 1 + length_at file m.place ≤ length file

-- why there is none
abbrev pub SizedFault : List ℕ → ℕ → ℕ → MediaError → Type 0
SizedFault file at q (Truncated n) = (n ≡ length file) × (length file < q + 3 ⊎ ((q + 3 ≤ length file) × (2 ≤ length_at file q) × (length file < q + 1 + length_at file q)))
SizedFault file at q (BadSegment p) = (p ≡ at) × (q + 3 ≤ length file) × (length_at file q < 2)
SizedFault file at q _ = ⊥

-- what the reader of a length returns
abbrev pub IsSizedOr : List ℕ → ℕ → Marker → Result Extent MediaError → Type 0
IsSizedOr file at m (Ok e) = IsSized file m e
IsSizedOr file at m (Err e) = OrJpegFault e (SizedFault file at m.place e)

-- the segments end at the place, or this segment stands there
abbrev pub IsNext : List ℕ → ℕ → Next → Type 0
IsNext file at next.End = EndsSegments (drop at file)
IsNext file at (next.Segment e) = IsExtent file at e

-- what the reader of a segment returns
abbrev pub IsNextOr : List ℕ → ℕ → Result Next MediaError → Type 0
IsNextOr file at (Ok n) = IsNext file at n
IsNextOr file at (Err e) = OrJpegFault e (MarkerFault at (drop at file) e)

-- the most bytes after a length, which counts its own two (ITU-T T.81, B.1.1.4)
abbrev pub longest_payload : ℕ
longest_payload = 65533

-- what is known of a segment at a place in a file of this size whose bytes aren't known
pub record IsExtentBy (at size : ℕ) (e : Extent) : Type 0 where
  pub later : at < e.end
  pub inside : e.end ≤ size
  pub ordered : e.body ≤ e.end
  pub short : e.end ≤ e.body + longest_payload

-- the same of what stands at a place
abbrev pub IsNextBy : ℕ → ℕ → Next → Type 0
IsNextBy at size next.End = at < size
IsNextBy at size (next.Segment e) = IsExtentBy at size e

-- the faults of a marker and its length, where the bytes aren't known
abbrev pub IsMarkerError : ℕ → ℕ → MediaError → Type 0
IsMarkerError at size (Truncated n) = n ≡ size
IsMarkerError at size (BadMarker p) = (p ≡ at) × (at < size)
IsMarkerError at size (BadSegment p) = (p ≡ at) × (at < size)
IsMarkerError at size ReadFault = ⊤
IsMarkerError at size _ = ⊥

-- What a read of the segment at a place returned, in a source of `size` bytes whose count of faults went from `before` to `now`.
pub record IsSegmentRead (known : Option (List ℕ)) (size before now at : ℕ) (result : Result Next MediaError) : Type 0 where
  -- without an error the count stays
  pub count : OnOk result (now ≡ before)
  -- an error has the cause that it says
  pub cause : IfErr result (IsJpegCaused before now)
  -- what is there lies in the source
  pub inside : IfOk result (IsNextBy at size)
  -- an error is one of a marker or of its length
  pub error : IfErr result (IsMarkerError at size)
  -- where the bytes are known, it is what stands there in the file, or the first test that fails
  pub next : ForSome known (λ file. IsNextOr file at result)
