-- What is ready to be written over a media file.
use Rattle.std.specs.Prelude.{ℕ, ◌+◌, ◌<◌, List, Option, vec_len}
use Rattle.std.specs.declared.result.Result.{Result}
use Rattle.c2_copying.specs.Writing.{IsOverSpare}
use Rattle.c2_build_refusals.specs.declared.error.BuildError.{BuildError}
use Rattle.c2_build_endings.specs.Endings.{build_ending}
use Rattle.c2_without_store.specs.Clears.{cleared, cleared_len}
use Rattle.c2_build_writing.specs.Puts.{CanPut, most_put, put_file}
use Rattle.c2_build_in_place.specs.declared.writing.Ready.{Ready}

-- the file that is ready to be written over a media file: what is left of that once it is cleared, with what is put in
abbrev pub ready_file : Ready → List ℕ → List ℕ
ready_file r media = put_file r.draft r.store (cleared r.clearing media)

-- What is ready can be written over what is left of a media file of this length, once that is cleared, whatever is known of its bytes.
pub record CanWrite (len : ℕ) (r : Ready) : Type 0 where
  pub can : CanPut (cleared_len r.clearing len) r.store r.draft
  pub room : 0 < vec_len r.buffer

-- A call that writes a new file over media of this length fails by its sink only where that states no spare for the media and the most that is
-- put in, whatever is known of its sources.
abbrev pub FitsOut : {T : Type 0} → Option ℕ → ℕ → Result T BuildError → Type 0
FitsOut spare len result = IsOverSpare (build_ending result) spare (len + most_put)
