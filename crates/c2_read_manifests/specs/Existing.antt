-- Lists of bytes that a program can hold.
use Rattle.std.specs.Prelude.{ℕ, ◌<◌, ◌^◌, List, All, length}

-- a list of bytes, of fewer than 2^64
pub record IsHeld (s : List ℕ) : Type 0 where
  pub bytes : All (λ b. b < 2 ^ 8) s
  pub short : length s < 2 ^ 64
