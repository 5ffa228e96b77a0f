-- What was done to a sink: by a step that appends bytes, and by a call that writes a file and then says that nothing follows.
use Rattle.std.specs.Prelude.{◌≡◌, ℕ, ◌-◌, ◌<◌, ⊤, Bool, true, List, ◌++◌, length, take, drop, Some}
use Rattle.std.specs.declared.option.Option.{Option}
use Rattle.std.specs.declared.result.Result.{Result}
use Rattle.std.specs.declared.result.Result.TheVariants.{Ok, Err}
use Rattle.std.specs.Option.{ForSome}
use Rattle.c2_base.specs.Causes.{Rose}
use Rattle.c2_base.specs.Sink.{Appends, HasWrittenPrefix, Spends, StaysSink}
use Rattle.c2_copying.specs.declared.copying.CopyError.{CopyError}
use Rattle.c2_copying.specs.declared.copying.CopyError.TheVariants.{ReadFault, WriteFault}

-- How a call that writes bytes ended: all of them were written; a source failed before that; the sink failed; or nothing was written.
pub data Ending : Type 0 where
  complete read_fault write_fault untouched : Ending

-- ---- a call that writes a file

-- The sink took these bytes, and is finished.
pub record Delivers {K : Type 0} (written : K → Option (List ℕ)) (finished : K → Bool) (bytes : List ℕ) (old new : K) : Type 0 where
  pub whole : Appends (written old) (written new) bytes
  pub ends : finished new ≡ true

-- The sink took a prefix of these bytes, and wasn't finished by it.
pub record Begins {K : Type 0} (written : K → Option (List ℕ)) (finished : K → Bool) (bytes : List ℕ) (old new : K) : Type 0 where
  pub prefix : HasWrittenPrefix (written old) (written new) bytes
  pub unfinished : finished new ≡ finished old

-- What a call has written that ended so, where it writes the bytes of which this holds: all of them, and the sink is finished; a prefix of
-- them after a fault; and no more is said here where nothing was written.
abbrev pub HasWritten : {K : Type 0} → (K → Option (List ℕ)) → (K → Bool) → (List ℕ → Type 0) → K → K → Ending → Type 0
HasWritten written finished Writes old new complete = (bytes : List ℕ) × Writes bytes × Delivers written finished bytes old new
HasWritten written finished Writes old new read_fault = (bytes : List ℕ) → Writes bytes → Begins written finished bytes old new
HasWritten written finished Writes old new write_fault = (bytes : List ℕ) → Writes bytes → Begins written finished bytes old new
HasWritten written finished Writes old new untouched = ⊤

-- the sink doesn't fail within a stated spare that holds what the call writes
abbrev pub FitsSpare : (List ℕ → Type 0) → Option ℕ → Ending → Type 0
FitsSpare Writes spare write_fault = ForSome spare (λ s. (bytes : List ℕ) → Writes bytes → s < length bytes)
FitsSpare Writes spare _ = ⊤

-- whether the sink is finished, before and after: a call that has written all finishes it, and no other does
abbrev pub HasFinish : Bool → Bool → Ending → Type 0
HasFinish before now complete = now ≡ true
HasFinish before now _ = now ≡ before

-- the sink is as it was where nothing was written
abbrev pub LeavesSink : {K : Type 0} → K → K → Ending → Type 0
LeavesSink old new untouched = new ≡ old
LeavesSink old new _ = ⊤

-- What a call has done to its sink that writes a file over known inputs: what it has written, and that this fits into a stated spare.
pub record WritesFile {K : Type 0} (written : K → Option (List ℕ)) (spare : K → Option ℕ) (finished : K → Bool) (Writes : List ℕ → Type 0) (old new : K) (ending : Ending) : Type 0 where
  pub wrote : HasWritten written finished Writes old new ending
  pub fits : FitsSpare Writes (spare old) ending

-- What a call has done to its sink that writes a file, whatever is known of its inputs: whether the sink is finished, and that it is
-- untouched where nothing was written.
pub record EndsSink {K : Type 0} (finished : K → Bool) (old new : K) (ending : Ending) : Type 0 where
  pub finish : HasFinish (finished old) (finished new) ending
  pub leaves : LeavesSink old new ending

-- ---- steps

-- the bytes of a file from one place to another
abbrev pub piece_of : List ℕ → ℕ → ℕ → List ℕ
piece_of file from to = take (to - from) (drop from file)

-- The sink took these bytes, and is finished or not as before.
pub record Puts {K : Type 0} (written : K → Option (List ℕ)) (spare : K → Option ℕ) (finished : K → Bool) (bytes : List ℕ) (old new : K) : Type 0 where
  pub all : Appends (written old) (written new) bytes
  pub less : Spends (spare old) (spare new) (length bytes)
  pub same : finished new ≡ finished old

-- where the sink failed, it couldn't state that it takes so many bytes
abbrev pub IsOverSpare : Ending → Option ℕ → ℕ → Type 0
IsOverSpare write_fault spare count = ForSome spare (λ s. s < count)
IsOverSpare _ spare count = ⊤

-- The sink took a prefix of these bytes and wasn't finished by it, and the step ended so.
pub record Breaks {K : Type 0} (written : K → Option (List ℕ)) (spare : K → Option ℕ) (finished : K → Bool) (bytes : List ℕ) (old new : K) (ending : Ending) : Type 0 where
  pub prefix : HasWrittenPrefix (written old) (written new) bytes
  pub same : finished new ≡ finished old
  pub over : IsOverSpare ending (spare old) (length bytes)

-- how a copy ended, by its error
abbrev pub ending_of : CopyError → Ending
ending_of ReadFault = read_fault
ending_of WriteFault = write_fault

-- what a step has done that appends these bytes
abbrev pub IsStep : {K T : Type 0} → (K → Option (List ℕ)) → (K → Option ℕ) → (K → Bool) → List ℕ → K → K → Result T CopyError → Type 0
IsStep written spare finished bytes old new (Ok x) = Puts written spare finished bytes old new
IsStep written spare finished bytes old new (Err e) = Breaks written spare finished bytes old new (ending_of e)

-- what a step has done that appends these bytes and then finishes the sink
abbrev pub IsWhole : {K T : Type 0} → (K → Option (List ℕ)) → (K → Option ℕ) → (K → Bool) → List ℕ → K → K → Result T CopyError → Type 0
IsWhole written spare finished bytes old new (Ok x) = Delivers written finished bytes old new
IsWhole written spare finished bytes old new (Err e) = Breaks written spare finished bytes old new (ending_of e)

-- what a step that appends so many bytes does to a stated spare, whatever is known of the bytes: it falls by as many; and a sink that failed held
-- fewer
abbrev pub TakesSpare : {T : Type 0} → Option ℕ → Option ℕ → ℕ → Result T CopyError → Type 0
TakesSpare old new count (Ok x) = Spends old new count
TakesSpare old new count (Err e) = IsOverSpare (ending_of e) old count

-- what an error of a copy says of the source, by its count of faults before and after: it failed, or it didn't
abbrev pub IsCopyReadCause : ℕ → ℕ → CopyError → Type 0
IsCopyReadCause before now ReadFault = Rose before now
IsCopyReadCause before now WriteFault = now ≡ before

-- what an error of a copy says of the sink, by its count of faults before and after: it failed, or it didn't
abbrev pub IsCopyWriteCause : ℕ → ℕ → CopyError → Type 0
IsCopyWriteCause before now ReadFault = now ≡ before
IsCopyWriteCause before now WriteFault = Rose before now

-- ---- steps one after the other

-- Two steps that append have appended both lists. Where the first of them breaks off, so do both together; and likewise where the second
-- does. Where all bytes were appended to a sink that states no spare, and it can't be finished then, the whole has broken off.
pub record StepsFollow {K : Type 0} (written : K → Option (List ℕ)) (spare : K → Option ℕ) (finished : K → Bool) : Type 0 where
  pub both : (xs ys : List ℕ) (old mid new : K) → Puts written spare finished xs old mid → Puts written spare finished ys mid new
      → Puts written spare finished (xs ++ ys) old new
  pub first : (xs ys : List ℕ) (old new : K) (ending : Ending) → Breaks written spare finished xs old new ending
      → Breaks written spare finished (xs ++ ys) old new ending
  pub second : (xs ys : List ℕ) (old mid new : K) (ending : Ending) → Puts written spare finished xs old mid
      → Breaks written spare finished ys mid new ending → Breaks written spare finished (xs ++ ys) old new ending
  pub open_end : (bytes : List ℕ) (old mid new : K) → Puts written spare finished bytes old mid → written new ≡ written mid
      → finished new ≡ finished mid → ((s : ℕ) → spare mid ≡ Some s → ⊥)
      → Breaks written spare finished bytes old new write_fault

-- A sink that no call has had is left as one that stays; and what each of two calls leaves of a sink, both together leave.
pub record StaysFollow {K : Type 0} (written : K → Option (List ℕ)) (finished : K → Bool) (faults : K → ℕ) : Type 0 where
  pub still : (k : K) → StaysSink written finished faults k k
  pub both : (a b c : K) → StaysSink written finished faults a b → StaysSink written finished faults b c
      → StaysSink written finished faults a c
