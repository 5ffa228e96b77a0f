-- The sources that a build reads, and what a call leaves of them.
use Rattle.std.specs.Prelude.{◌⊎◌, ℕ, List}
use Rattle.std.specs.declared.option.Option.{Option}
use Rattle.std.specs.declared.result.Result.{Result}
use Rattle.c2_base.specs.Causes.{Rose}
use Rattle.c2_base.specs.Source.{ReadsSource}

-- A source in a call: its length, the bytes that are known of it, its count of faults, and the source before and after the call.
pub record SourceUse (S : Type 0) : Type 0 where
  pub len : S → ℕ
  pub known : S → Option (List ℕ)
  pub faults : S → ℕ
  pub old : S
  pub new : S

-- a source with these meanings, before and after a call
abbrev pub use_of : {S : Type 0} → (S → ℕ) → (S → Option (List ℕ)) → (S → ℕ) → S → S → SourceUse S
use_of len known faults old new = record { len = len; known = known; faults = faults; old = old; new = new }

-- its count of faults rose in the call
abbrev pub FaultsRose : {S : Type 0} → SourceUse S → Type 0
FaultsRose s = Rose (s.faults s.old) (s.faults s.new)

-- a call with this result only reads the source, and each error has this cause by its count of faults
abbrev pub IsRead : {S T E : Type 0} → (ℕ → ℕ → E → Type 0) → SourceUse S → Result T E → Type 0
IsRead IsCause s result = ReadsSource s.len s.known s.faults IsCause s.old s.new result

-- What a call that plans leaves of its sources. Each error has its cause by each of them: by its own count of faults, and by whether that of
-- the other one rose.
pub record ReadsPlanned {A B T E : Type 0} (IsCause : Type 0 → ℕ → ℕ → E → Type 0) (a : SourceUse A) (b : SourceUse B) (result : Result T E) : Type 0 where
  -- the media file
  pub media : IsRead (IsCause (FaultsRose b)) a result
  -- the definition file
  pub definition : IsRead (IsCause (FaultsRose a)) b result

-- What a call that embeds leaves of its sources. Each error has its cause by each of them: by its own count of faults, and by whether that of
-- another one rose.
pub record ReadsSigned {A B C T E : Type 0} (IsCause : Type 0 → ℕ → ℕ → E → Type 0) (a : SourceUse A) (b : SourceUse B) (c : SourceUse C) (result : Result T E) : Type 0 where
  -- the media file
  pub media : IsRead (IsCause (FaultsRose b ⊎ FaultsRose c)) a result
  -- the definition file
  pub definition : IsRead (IsCause (FaultsRose a ⊎ FaultsRose c)) b result
  -- the signed message
  pub message : IsRead (IsCause (FaultsRose a ⊎ FaultsRose b)) c result
