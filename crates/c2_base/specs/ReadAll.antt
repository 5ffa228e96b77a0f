-- When `read_all` gives each error.
use Rattle.std.specs.Prelude.{◌≡◌, ℕ, ◌<◌, ⊤}
use Rattle.c2_base.specs.Causes.{Rose}
use Rattle.c2_base.specs.declared.calls.ReadAllError.{ReadAllError}
use Rattle.c2_base.specs.declared.calls.ReadAllError.TheVariants.{TooLong, ReadFault, NoMemory}

-- the cause of this error, where at most `most` bytes of a source were asked for: it has more, or its count of faults rose
abbrev pub HasReason : {S : Type 0} → (S → ℕ) → (S → ℕ) → ℕ → S → S → ReadAllError → Type 0
HasReason len faults most old new (TooLong n) = (n ≡ len old) × (most < len old) × (faults new ≡ faults old)
HasReason len faults most old new ReadFault = Rose (faults old) (faults new)
HasReason len faults most old new NoMemory = ⊤
