-- What a walk over the segments of a JPEG file refuses that asks nothing of their packets.
use Rattle.std.specs.Prelude.{◌≡◌, ℕ, ◌<◌, ◌≤◌, ⊤, List, Ok, Err}
use Rattle.std.specs.declared.result.Result.{Result}
use Rattle.c2_base.specs.declared.limits.TheConstants.{FILE_LEN_LIMIT}
use Rattle.c2_base.specs.declared.media.MediaError.{MediaError}
use Rattle.c2_base.specs.declared.media.MediaError.TheVariants.{NotMedia, FileTooLarge, Truncated, BadMarker, BadSegment, ReadFault}
use Rattle.c2_spec.specs.Jpeg.Places.{IsOfSegments, SegmentsFault}
use Rattle.c2_spec.specs.Jpeg.Segments.{Segment}
use Rattle.c2_jpegseg_segments.specs.Causes.{OrJpegFault}

-- an error tells the first test of the file's segments that fails, unless it says nothing of the file
abbrev pub TellsFault : List ℕ → MediaError → Type 0
TellsFault file e = OrJpegFault e (SegmentsFault file e)

-- without an error the file is a list of segments that ends, so that no test fails; an error tells the first that does
abbrev pub IsSegmentsOr : {T : Type 0} → List ℕ → Result T MediaError → Type 0
IsSegmentsOr file (Ok r) = (segments : List Segment) × IsOfSegments file segments
IsSegmentsOr file (Err e) = TellsFault file e

-- What a walk over segments can refuse in a file of `len` bytes whose bytes aren't known: its length, its start or a place in it, or the
-- source failed. It takes no memory.
abbrev pub IsSegmentsRefusal : ℕ → MediaError → Type 0
IsSegmentsRefusal len (FileTooLarge n) = (n ≡ len) × (FILE_LEN_LIMIT ≤ len)
IsSegmentsRefusal len NotMedia = ⊤
IsSegmentsRefusal len (Truncated n) = n ≡ len
IsSegmentsRefusal len (BadMarker p) = p < len
IsSegmentsRefusal len (BadSegment p) = p < len
IsSegmentsRefusal len ReadFault = ⊤
IsSegmentsRefusal len _ = ⊥

-- What a walk over segments that takes memory can refuse in a file of `len` bytes whose bytes aren't known, unless the source failed or
-- memory ran out.
abbrev pub IsSegmentsRefusalOr : ℕ → MediaError → Type 0
IsSegmentsRefusalOr len e = OrJpegFault e (IsSegmentsRefusal len e)
