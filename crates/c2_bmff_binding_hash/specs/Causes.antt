-- Why a BMFF file has no digest.
use Rattle.std.specs.Prelude.{◌≡◌, ℕ, ⊤}
use Rattle.c2_base.specs.Causes.{Rose}
use Rattle.c2_cover.specs.declared.cover.CoverError.{CoverError}
use Rattle.c2_cover.specs.declared.cover.CoverError.TheVariants as cover
use Rattle.c2_bmff_binding_hash.specs.declared.error.BmffError.{BmffError}
use Rattle.c2_bmff_binding_hash.specs.declared.error.BmffError.TheVariants.{ReadFault, NoMemory}

-- the cause of this error, where the source's count of faults was and is this
abbrev pub IsBmffHashCause : ℕ → ℕ → BmffError → Type 0
IsBmffHashCause before now ReadFault = Rose before now
IsBmffHashCause before now NoMemory = ⊤

-- ---- for private clauses

-- an error of the cover of boxes: no range of it is bad
abbrev pub IsOfBoxes : CoverError → Type 0
IsOfBoxes (cover.BadRange i) = ⊥
IsOfBoxes cover.ReadFault = ⊤
IsOfBoxes cover.NoMemory = ⊤

-- a fault of the source is told as one, and want of memory as that
abbrev pub IsSameError : CoverError → BmffError → Type 0
IsSameError (cover.BadRange i) e = ⊥
IsSameError cover.ReadFault e = e ≡ ReadFault
IsSameError cover.NoMemory e = e ≡ NoMemory
