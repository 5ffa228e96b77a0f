-- A file with a piece put in, and one less a range.
use Rattle.std.specs.Prelude.{ℕ, ◌+◌, List, ◌++◌, take, drop}

-- a list with another one put in at a place
abbrev pub put_in : ℕ → List ℕ → List ℕ → List ℕ
put_in at piece base = take at base ++ (piece ++ drop at base)

-- a list less `len` of its places from `start` on
abbrev pub taken_out : ℕ → ℕ → List ℕ → List ℕ
taken_out start len file = take start file ++ drop (start + len) file
