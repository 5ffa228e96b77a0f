-- Errors of a shift: what they come of, and what they say of the file.
use Rattle.std.specs.Prelude.{◌≡◌, ℕ, ◌<◌, ⊤, List, ◌∷◌}
use Rattle.c2_base.specs.Causes.{Rose}
use Rattle.c2_bmff_chunks.specs.declared.table.ShiftError.{ShiftError}
use Rattle.c2_bmff_chunks.specs.declared.table.ShiftError.TheVariants.{OffsetTable, BadTree, BadTable, Overflow, ReadFault, NoMemory}

-- Why the tables of a source of `len` bytes aren't answered, by its count of faults before and after: a fault comes where the count rose,
-- and a refusal names a place in the source and leaves the count. No place is moved, so none is too large.
abbrev pub IsTablesCause : ℕ → ℕ → ℕ → ShiftError → Type 0
IsTablesCause len before now (OffsetTable at) = (at < len) × (now ≡ before)
IsTablesCause len before now (BadTree at) = (at < len) × (now ≡ before)
IsTablesCause len before now (BadTable at) = (at < len) × (now ≡ before)
IsTablesCause len before now (Overflow at) = ⊥
IsTablesCause len before now ReadFault = Rose before now
IsTablesCause len before now NoMemory = ⊤

-- Why the places in a source of `len` bytes can't be moved: one is too large for its field, which lies in the source; or the source failed.
abbrev pub IsCheckCause : ℕ → ℕ → ℕ → ShiftError → Type 0
IsCheckCause len before now (Overflow at) = (at < len) × (now ≡ before)
IsCheckCause len before now ReadFault = Rose before now
IsCheckCause len before now _ = ⊥

-- this holds, unless the source failed or memory ran out
abbrev pub OrShiftFault : ShiftError → Type 0 → Type 0
OrShiftFault ReadFault claim = ⊤
OrShiftFault NoMemory claim = ⊤
OrShiftFault _ claim = claim

-- of these places this is the first
pub record IsFirstPlace (places : List ℕ) (at : ℕ) : Type 0 where
  pub others : List ℕ
  pub first : places ≡ at ∷ others

-- the error names the first of these places, unless the source failed
abbrev pub IsFirstOverflow : List ℕ → ShiftError → Type 0
IsFirstOverflow places (Overflow at) = IsFirstPlace places at
IsFirstOverflow places ReadFault = ⊤
IsFirstOverflow places _ = ⊥
