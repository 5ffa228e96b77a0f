-- Of two faults of a map the one that comes first: for private clauses.
use Rattle.std.specs.Prelude.{◌≡◌, ◌⊎◌, ℕ, List, Option, None}
use Rattle.c2_cbor_spec.specs.declared.fault.ReadError.{ReadError}
use Rattle.c2_cbor_spec.specs.Tracking.{RepeatFault}

-- the answer is the fault of a key that equals one before it, whose number is r, or where there is none the given fault
abbrev pub IsFirstFault : Option ℕ → List ℕ → ReadError → ReadError → Type 0
IsFirstFault r places fault answer = RepeatFault r places answer ⊎ ((r ≡ None) × (answer ≡ fault))
