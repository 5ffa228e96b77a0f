-- What the failure of a call comes from that reads two sources side by side.
use Rattle.std.specs.Prelude.{◌⊎◌, ℕ}
use Rattle.c2_base.specs.Causes.{Rose}
use Rattle.c2_base.specs.declared.outside.Failed.{Failed}

-- Of a source that is read beside another, whose count of faults is given first: one of the two failed.
abbrev pub IsOneOfTwo : ℕ → ℕ → ℕ → ℕ → Failed → Type 0
IsOneOfTwo other_before other_now before now failed = Rose before now ⊎ Rose other_before other_now
