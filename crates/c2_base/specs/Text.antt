-- How a text is held, and how long it may be.
use Rattle.std.specs.Prelude.{ℕ, ◌<◌, ◌≤◌, ◌^◌, List, length, take, string_bytes}
use Rattle.c2_base.specs.declared.values.Held.{Held}
use Rattle.c2_base.specs.declared.values.Held.TheVariants.{Inside, Apart}

-- the bytes can be counted in 64 bits
abbrev pub IsShort : List ℕ → Type 0
IsShort bytes = length bytes < 2 ^ 64

-- the bytes that are held
abbrev pub held_bytes : Held → List ℕ
held_bytes (Inside len bytes) = take len bytes
held_bytes (Apart text) = string_bytes text.value

-- as many bytes as are said to be held are there
abbrev pub IsHeld : Held → Type 0
IsHeld (Inside len bytes) = len ≤ 14
IsHeld (Apart text) = Unit {0}
