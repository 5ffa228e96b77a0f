-- Why there is no cover.
use Rattle.std.specs.Prelude.{◌≡◌, ℕ, ⊤, List, ◌∷◌, Option, Some, map}
use Rattle.std.specs.List.{position_from, zip}
use Rattle.c2_base.specs.Causes.{Rose}
use Rattle.c2_base.specs.declared.values.Range.{Range}
use Rattle.c2_spec.specs.Cover.{bad_range, is_bad_after, range_end}
use Rattle.c2_cover.specs.declared.cover.CoverError.{CoverError}
use Rattle.c2_cover.specs.declared.cover.CoverError.TheVariants.{BadRange, ReadFault, NoMemory}

-- the cause of this error of `data_cover`
abbrev pub IsDataCoverCause : ℕ → List Range → CoverError → Type 0
IsDataCoverCause size ranges (BadRange i) = bad_range size ranges ≡ Some i
IsDataCoverCause size ranges ReadFault = ⊥
IsDataCoverCause size ranges NoMemory = ⊤

-- the cause of this error of `bmff_cover`, where the source's count of faults was and is this
abbrev pub IsBmffCause : ℕ → ℕ → CoverError → Type 0
IsBmffCause before now (BadRange i) = ⊥
IsBmffCause before now ReadFault = Rose before now
IsBmffCause before now NoMemory = ⊤

-- For private clauses: the first bad range of those from index `i` on, where the one before them ends here.
abbrev pub bad_from : ℕ → ℕ → ℕ → List Range → Option ℕ
bad_from size end i ranges =
    position_from (is_bad_after size) i (zip (end ∷ map range_end ranges) ranges)
