-- How a file begins, and what it comes to, for private clauses.
use Rattle.std.specs.Prelude.{◌≢◌, ℕ, Bool, true, false, List, take, Option, Some, None}
use Rattle.c2_base.specs.declared.media.MediaError.{MediaError}
use Rattle.c2_spec.specs.Jpeg.Segments.{start_of_image}
use Rattle.c2_spec.specs.Jpeg.Store.{HasJpegStore, HasNoJpegStore, FirstJpegFault}
use Rattle.c2_spec.specs.Located.{Located, absent, here, refusal}
use Rattle.c2_jpegseg_segments.specs.Walks.{Walks}

-- whether the file begins as a JPEG does
abbrev pub IsBegun : List ℕ → Bool → Type 0
IsBegun file true = Walks file 2 None
IsBegun file false = take 2 file ≢ start_of_image

-- What a file comes to, by the error itself.
pub data Finding : Type 0 where
  refusing : MediaError → Finding
  lacking : Finding
  holding : ℕ → ℕ → List ℕ → Finding

-- what is so of a file that comes to this
abbrev pub IsFinding : List ℕ → Finding → Type 0
IsFinding file (refusing e) = FirstJpegFault file e
IsFinding file lacking = HasNoJpegStore file
IsFinding file (holding start len store) = HasJpegStore file start len store

-- the same as the definition has it
abbrev pub located_of : Finding → Option Located
located_of (refusing e) = refusal e
located_of lacking = Some absent
located_of (holding start len store) = Some (here start len store)
