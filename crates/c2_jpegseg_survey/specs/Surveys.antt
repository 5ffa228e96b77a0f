-- What one walk over a JPEG file finds: its store, and where other packets go in what is left of it.
use Rattle.std.specs.Prelude.{◌≡◌, ℕ, ◌-◌, ◌<◌, ◌≤◌, List, IfSome, Option, Some, None, Ok, Err}
use Rattle.std.specs.declared.result.Result.{Result}
use Rattle.c2_base.specs.declared.limits.TheConstants.{FILE_LEN_LIMIT}
use Rattle.c2_base.specs.declared.media.Found.{Found}
use Rattle.c2_base.specs.declared.media.MediaError.{MediaError}
use Rattle.c2_base.specs.declared.media.MediaError.TheVariants.{NoMemory}
use Rattle.c2_base.specs.declared.values.Range.{Range}
use Rattle.c2_spec.specs.Jpeg.Places.{IsInsertPlace, HasNumber}
use Rattle.c2_spec.specs.Jpeg.Store.{EndsWithin, HasSmallStore}
use Rattle.c2_spec.specs.Located.{HasReason}
use Rattle.c2_spec.specs.PutIn.{taken_out}
use Rattle.c2_jpegseg_survey.specs.declared.surveying.PacketPoint.{PacketPoint}
use Rattle.c2_jpegseg_survey.specs.declared.surveying.Surveyed.{Surveyed}

-- the range of a store that was found; an empty one where none was
abbrev pub range_of : Option Found → Range
range_of None = record { start = 0; length = 0 }
range_of (Some f) = record { start = f.start; length = f.length }

-- what is left of a file once the store that was found in it is taken out
abbrev pub less_found : Option Found → List ℕ → List ℕ
less_found found file = taken_out (range_of found).start (range_of found).length file

-- packets go here in a file, under this number, where one is free
pub record HasPacketPoint (file : List ℕ) (s : PacketPoint) : Type 0 where
  pub place : IsInsertPlace file s.start
  pub number : HasNumber file s.number

-- what a survey says of the store alone
abbrev pub found_in : Result Surveyed MediaError → Result (Option Found) MediaError
found_in (Ok s) = Ok s.found
found_in (Err e) = Err e

-- The cause of an error, where the source has `len` bytes and its count of faults went from `before` to `now`: a fault comes where the
-- count rose, and every other error leaves it, also out of memory.
abbrev pub IsSurveyCause : ℕ → ℕ → ℕ → MediaError → Type 0
IsSurveyCause len before now NoMemory = now ≡ before
IsSurveyCause len before now e = HasReason len before now e

-- What is so of a survey of a file of this length, whatever is known of its bytes: the file isn't too large, the range of a store ends in it,
-- and the store isn't too large; the place lies in what is left, whose length is told.
pub record IsSurveyOf (len : ℕ) (s : Surveyed) : Type 0 where
  pub small : len < FILE_LEN_LIMIT
  pub range : IfSome s.found (EndsWithin len)
  pub store : IfSome s.found HasSmallStore
  pub size : s.point.size ≡ len - (range_of s.found).length
  pub inside : s.point.start ≤ s.point.size
