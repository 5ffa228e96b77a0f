-- The segments of a JPEG file apart from the packets of a store (ITU-T T.81, B.1.1): whether they end, where packets go among
-- them and which number is free.
use Rattle.std.specs.Prelude.{◌≡◌, ◌≢◌, ◌⊎◌, ℕ, ◌<◌, ◌≤◌, List, length, take, Option}
use Rattle.c2_base.specs.declared.limits.TheConstants.{FILE_LEN_LIMIT}
use Rattle.c2_base.specs.declared.values.Range.{Range}
use Rattle.c2_base.specs.declared.media.MediaError.{MediaError}
use Rattle.c2_base.specs.declared.media.MediaError.TheVariants.{NotMedia, FileTooLarge}
use Rattle.c2_spec.specs.Jpeg.Segments.{Segment, EndsSegments, HasSegments, MarkerFault, start_of_image, place_after}
use Rattle.c2_spec.specs.Jpeg.Store.{HasJpegStore}
use Rattle.c2_spec.specs.Jpeg.Writing.{insert_place, IsNumberOf}

-- The file is a list of segments, and what begins with EOI or SOS.
pub record IsOfSegments (file : List ℕ) (segments : List Segment) : Type 0 where
  pub fits : length file < FILE_LEN_LIMIT
  pub rest : List ℕ
  pub begins : HasSegments file segments rest
  pub ends : EndsSegments rest

-- The first test of a file's size, start, markers and lengths that fails. Nothing is asked of packets.
pub data SegmentsFault (file : List ℕ) : MediaError → Type 0 where
  too_large : FILE_LEN_LIMIT ≤ length file → SegmentsFault file (FileTooLarge (length file))
  not_media : length file < FILE_LEN_LIMIT → take 2 file ≢ start_of_image → SegmentsFault file NotMedia
  at_marker : (before : List Segment) (rest : List ℕ) (fault : MediaError) → length file < FILE_LEN_LIMIT → HasSegments file before rest
      → MarkerFault (place_after before) rest fault → SegmentsFault file fault

-- Such a range may be passed over: an empty one, or that of the file's store.
abbrev pub CanSkip : List ℕ → Range → Type 0
CanSkip file skip = (skip.length ≡ 0) ⊎ ((store : List ℕ) × HasJpegStore file skip.start skip.length store)

-- packets go here in a file
pub record IsInsertPlace (file : List ℕ) (place : ℕ) : Type 0 where
  pub segments : List Segment
  pub is_of : IsOfSegments file segments
  pub place_is : place ≡ insert_place segments

-- this number is free in a file, or none is
pub record HasNumber (file : List ℕ) (number : Option ℕ) : Type 0 where
  pub segments : List Segment
  pub is_of : IsOfSegments file segments
  pub number_is : IsNumberOf segments number
