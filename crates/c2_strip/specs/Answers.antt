-- What `strip` answers, what it writes, and what its errors come of.
use Rattle.std.specs.Prelude.{◌≡◌, ℕ, ◌+◌, ◌<◌, ◌≤◌, ⊤, List}
use Rattle.std.specs.declared.result.Result.{Result}
use Rattle.std.specs.declared.result.Result.TheVariants.{Ok, Err}
use Rattle.c2_base.specs.Causes.{Rose}
use Rattle.c2_base.specs.declared.limits.TheConstants.{FILE_LEN_LIMIT}
use Rattle.c2_container.specs.Contained.{IsRefusalOf}
use Rattle.c2_copying.specs.Writing.{Ending, complete, read_fault, write_fault, untouched}
use Rattle.c2_strip.specs.Stripping.{StripsTo, left_of}
use Rattle.c2_strip.specs.declared.error.Stripped.{Stripped}
use Rattle.c2_strip.specs.declared.error.Stripped.TheVariants.{Done, NoStore, Refused, Middle}
use Rattle.c2_strip.specs.declared.error.StripError.{StripError}
use Rattle.c2_strip.specs.declared.error.StripError.TheVariants.{ReadFault, WriteFault, NoMemory}

-- This is what the file comes to, and nothing else is.
pub record IsStripped (file : List ℕ) (answer : Stripped) : Type 0 where
  pub is : StripsTo file answer
  pub only : (other : Stripped) → StripsTo file other → other ≡ answer

-- what an answer says of a source of so many bytes, also of one whose bytes are unknown: a range and a place lie in it, and a refusal is one
-- of the container's
abbrev pub IsAnswerOf : ℕ → Stripped → Type 0
IsAnswerOf len (Done range) = range.start + range.length ≤ len
IsAnswerOf len NoStore = len < FILE_LEN_LIMIT
IsAnswerOf len (Refused e) = IsRefusalOf len e
IsAnswerOf len (Middle at) = at ≤ len

-- these bytes are written of the file
abbrev pub Writes : List ℕ → List ℕ → Type 0
Writes file bytes = (a : Stripped) × StripsTo file a × (bytes ≡ left_of file a)

-- how the call ended, by its result: all was written, a fault came, or nothing was written
abbrev pub ending_of : Result Stripped StripError → Ending
ending_of (Ok (Done range)) = complete
ending_of (Ok NoStore) = untouched
ending_of (Ok (Refused e)) = untouched
ending_of (Ok (Middle at)) = untouched
ending_of (Err ReadFault) = read_fault
ending_of (Err WriteFault) = write_fault
ending_of (Err NoMemory) = untouched

-- what an error says of the source, by its count of faults before and after
abbrev pub IsStripReadCause : ℕ → ℕ → StripError → Type 0
IsStripReadCause before now ReadFault = Rose before now
IsStripReadCause before now WriteFault = now ≡ before
IsStripReadCause before now NoMemory = ⊤

-- what an error of a call that strips says of the sink, by its count of faults before and after
abbrev pub IsStripWriteCause : ℕ → ℕ → StripError → Type 0
IsStripWriteCause before now WriteFault = Rose before now
IsStripWriteCause before now _ = now ≡ before
