-- What the answer of a build leaves of its sink.
use Rattle.std.specs.Prelude.{◌≡◌, ℕ, ⊤, Bool, true}
use Rattle.std.specs.declared.result.Result.{Result}
use Rattle.std.specs.declared.result.Result.TheVariants.{Ok, Err}
use Rattle.c2_base.specs.Causes.{Rose}
use Rattle.c2_build_refusals.specs.Kinds.{ErrorKind, front_refusal, judge_fault, kind_of, message_refusal, no_memory, older_refusal, other_refusal, read_fault, refusal, write_fault}
use Rattle.c2_build_refusals.specs.declared.error.BuildError.{BuildError}

-- The cause of an error of this kind, by the sink's count of faults before and after: a refusal leaves the count, and the sink's own fault comes
-- only where it rose.
abbrev pub IsSinkCause : ℕ → ℕ → ErrorKind → Type 0
IsSinkCause before now refusal = now ≡ before
IsSinkCause before now message_refusal = now ≡ before
IsSinkCause before now front_refusal = now ≡ before
IsSinkCause before now older_refusal = now ≡ before
IsSinkCause before now other_refusal = now ≡ before
IsSinkCause before now read_fault = ⊤
IsSinkCause before now judge_fault = ⊤
IsSinkCause before now write_fault = Rose before now
IsSinkCause before now no_memory = ⊤

-- the cause of an error of a call that writes a new file, by the sink
abbrev pub IsOutCause : ℕ → ℕ → BuildError → Type 0
IsOutCause before now e = IsSinkCause before now (kind_of e)

-- an error of this kind leaves the sink, unless reading or writing failed
abbrev pub KindLeaves : ErrorKind → Type 0 → Type 0
KindLeaves read_fault claim = ⊤
KindLeaves write_fault claim = ⊤
KindLeaves k claim = claim

-- the sink changes only by success, or where reading or writing failed
abbrev pub LeavesSink : {T : Type 0} → Result T BuildError → Type 0 → Type 0
LeavesSink (Ok x) claim = ⊤
LeavesSink (Err e) claim = KindLeaves (kind_of e) claim

-- whether the sink is finished, whatever is known of the sources: success finishes it, and no other answer does
abbrev pub HasFinish : {T : Type 0} → Bool → Bool → Result T BuildError → Type 0
HasFinish before now (Ok x) = now ≡ true
HasFinish before now (Err e) = now ≡ before

-- How a call that writes a new file leaves its sink, whatever is known of the sources: success finishes it and no other answer does; it is
-- untouched but by success, or where reading or writing failed.
pub record EndsOut {K T : Type 0} (finished : K → Bool) (old new : K) (result : Result T BuildError) : Type 0 where
  pub finish : HasFinish (finished old) (finished new) result
  pub untouched : LeavesSink result (new ≡ old)
