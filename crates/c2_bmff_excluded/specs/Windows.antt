-- For private clauses: bytes of the file that were read last.
use Rattle.std.specs.Prelude.{◌≡◌, ℕ, ◌+◌, ◌<◌, ◌≤◌, List, take, drop}
use Rattle.c2_bmff_excluded.specs.declared.far.Window.{Window}

-- the first bytes of a buffer are those of the file from the window's start on
abbrev pub IsWindow : List ℕ → List ℕ → Window → Type 0
IsWindow file bytes w = take w.count bytes ≡ take w.count (drop w.start file)

-- the byte at a place is among them
abbrev pub HasByte : ℕ → Window → Type 0
HasByte at w = (w.start ≤ at) × (at < w.start + w.count)
