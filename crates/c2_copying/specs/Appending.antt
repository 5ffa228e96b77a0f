-- What a call that appends bytes has done to a sink, as one fact, for clauses of the crates that write a store.
use Rattle.std.specs.Prelude.{◌≡◌, ℕ, Bool, List, length, Option, OnOk}
use Rattle.std.specs.declared.result.Result.{Result}
use Rattle.c2_base.specs.Causes.{HasCause}
use Rattle.c2_base.specs.Sink.{Appends, Spends, TakesPrefix, OkWithinSpare}

-- These bytes were appended, or a prefix of them and the sink failed; within the stated spare it didn't.
pub record IsWriting {K T E : Type 0} (written : K → Option (List ℕ)) (spare : K → Option ℕ) (finished : K → Bool)
    (faults : K → ℕ) (bytes : List ℕ) (old new : K) (result : Result T E) : Type 0 where
  pub all : OnOk result (Appends (written old) (written new) bytes)
  pub less : OnOk result (Spends (spare old) (spare new) (length bytes))
  pub prefix : TakesPrefix written spare bytes old new
  pub unfinished : finished new ≡ finished old
  pub cause : HasCause (faults old) (faults new) result
  pub within : OkWithinSpare (spare old) (length bytes) result
