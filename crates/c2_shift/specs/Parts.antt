-- For private clauses: a part of a file in which the fields up to a place have other numbers already.
use Rattle.std.specs.Prelude.{◌≡◌, ℕ, ◌-◌, List, length, take, drop}

-- the part, which begins at `pos` of the file, has from the place `at` of the file on the file's bytes
abbrev pub IsAsRead : List ℕ → ℕ → ℕ → List ℕ → Type 0
IsAsRead file pos at part = drop (at - pos) part ≡ drop (at - pos) (take (length part) (drop pos file))
