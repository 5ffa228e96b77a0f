-- What a call leaves of a source that it reads beside another, where an error may come from either.
use Rattle.std.proofs.Common.{◌≡◌, ℕ, List, Option, Result, Ok, subst}
use Rattle.c2_base.specs.Source.{ReadsSource}
use Rattle.c2_calls_spec.proofs.SourceLemmas.{reads_next}

module _ {S E : Type 0} {len : S → ℕ} {known : S → Option (List ℕ)} {faults : S → ℕ} (Beside : ℕ → ℕ → ℕ → ℕ → E → Type 0) where
  -- what a call leaves of a source, where the other source's count of faults stood in calls before this one
  pub reads_beside : {T : Type 0} (before between now : ℕ) (a b : S) (r : Result T E) → between ≡ before
      → ReadsSource len known faults (Beside between now) a b r → ReadsSource len known faults (Beside before now) a b r
  reads_beside before between now a b r same h =
      subst (λ (n : ℕ). ReadsSource len known faults (Beside n now) a b r) same h

  -- two calls over both sources, of which the first had an answer
  pub reads_both : {T U : Type 0} (before between now : ℕ) (a b c : S) (x : T) (r : Result U E) → between ≡ before
      → ReadsSource len known faults (Beside before between) a b (Ok x)
      → ReadsSource len known faults (Beside between now) b c r → ReadsSource len known faults (Beside before now) a c r
  reads_both before between now a b c x r same h k =
      reads_next len known faults (Beside before between) (Beside before now) a b c x r h
      (reads_beside before between now b c r same k)
