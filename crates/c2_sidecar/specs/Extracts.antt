-- What `extract` answers, what it writes, and what its errors come of.
use Rattle.std.specs.Prelude.{◌≡◌, ℕ, ◌<◌, ◌≤◌, ⊤, List, Some}
use Rattle.std.specs.declared.result.Result.{Result}
use Rattle.std.specs.declared.result.Result.TheVariants.{Ok, Err}
use Rattle.c2_base.specs.Causes.{Rose}
use Rattle.c2_base.specs.declared.limits.TheConstants.{FILE_LEN_LIMIT, MAX_STORE_LEN}
use Rattle.c2_base.specs.declared.media.MediaError.{MediaError}
use Rattle.c2_spec.specs.Container.{IsLocated}
use Rattle.c2_spec.specs.Located.{Located, refusal, refused}
use Rattle.c2_container.specs.Contained.{IsRefusalOf}
use Rattle.c2_copying.specs.Writing.{Ending, complete, write_fault, untouched}
use Rattle.c2_sidecar.specs.Extracting.{ExtractsTo, store_of}
use Rattle.c2_sidecar.specs.declared.error.Extracted.{Extracted}
use Rattle.c2_sidecar.specs.declared.error.Extracted.TheVariants.{Done, NoStore, Refused}
use Rattle.c2_sidecar.specs.declared.error.ExtractError.{ExtractError}
use Rattle.c2_sidecar.specs.declared.error.ExtractError.TheVariants.{ReadFault, WriteFault, NoMemory}

-- This is what the file comes to, and nothing else is.
pub record IsExtracted (file : List ℕ) (answer : Extracted) : Type 0 where
  pub is : ExtractsTo file answer
  pub only : (other : Extracted) → ExtractsTo file other → other ≡ answer

-- what an answer says of a source of so many bytes, also of one whose bytes are unknown: a store is no longer than one may be, and a refusal
-- is one of the container's
abbrev pub IsAnswerOf : ℕ → Extracted → Type 0
IsAnswerOf len (Done count) = (count ≤ MAX_STORE_LEN) × (len < FILE_LEN_LIMIT)
IsAnswerOf len NoStore = len < FILE_LEN_LIMIT
IsAnswerOf len (Refused reason number) =
    (e : MediaError) × IsRefusalOf len e × (refusal e ≡ Some (refused reason number))

-- these bytes are written of the file: those of its store
abbrev pub Writes : List ℕ → List ℕ → Type 0
Writes file bytes = (what : Located) × IsLocated file what × (bytes ≡ store_of what)

-- How the call ended, by its result: all was written, the sink failed, or nothing was written. The store is read before it is written, so a
-- failed source leaves the sink untouched.
abbrev pub ending_of : Result Extracted ExtractError → Ending
ending_of (Ok (Done count)) = complete
ending_of (Ok NoStore) = untouched
ending_of (Ok (Refused reason number)) = untouched
ending_of (Err ReadFault) = untouched
ending_of (Err WriteFault) = write_fault
ending_of (Err NoMemory) = untouched

-- what an error of `extract` says of the source, by the source's count of faults before and after
abbrev pub IsExtractReadCause : ℕ → ℕ → ExtractError → Type 0
IsExtractReadCause before now ReadFault = Rose before now
IsExtractReadCause before now WriteFault = now ≡ before
IsExtractReadCause before now NoMemory = ⊤

-- what an error of `extract` says of the sink, by the sink's count of faults before and after
abbrev pub IsExtractWriteCause : ℕ → ℕ → ExtractError → Type 0
IsExtractWriteCause before now WriteFault = Rose before now
IsExtractWriteCause before now _ = now ≡ before
