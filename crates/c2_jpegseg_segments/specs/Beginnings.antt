-- What a walk over the segments of a JPEG file begins with, for private clauses.
use Rattle.std.specs.Prelude.{◌≡◌, ℕ, ◌<◌, ◌≤◌, List, Option, None}
use Rattle.std.specs.Option.{ForSome}
use Rattle.c2_base.specs.declared.limits.TheConstants.{FILE_LEN_LIMIT}
use Rattle.c2_jpegseg_segments.specs.Walks.{Walks}

-- A source of `len` bytes has this size, and the start of an image was read at its front.
pub record IsStart (known : Option (List ℕ)) (len size : ℕ) : Type 0 where
  -- the size is that of the source
  pub whole : size ≡ len
  -- the start of the image lies in it
  pub inside : 2 ≤ size
  -- the file isn't too large
  pub bounded : size < FILE_LEN_LIMIT
  -- where the bytes are known, they begin so
  pub begun : ForSome known (λ file. Walks file 2 None)
