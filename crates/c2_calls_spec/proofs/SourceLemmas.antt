-- What a call leaves of its source, put together from what the calls below it leave.
use Rattle.std.proofs.Common.{◌≡◌, ℕ, List, Option, Result, Ok, Err, IfErr, OnOk, refl, subst, arith}
use Rattle.c2_base.specs.Source.{ReadsSource, StaysSource}
use Rattle.c2_base.proofs.Written.{source_stays}

-- a source is left as it was
pub stays_as_it_was : {S : Type 0} (len : S → ℕ) (known : S → Option (List ℕ)) (faults : S → ℕ) (s : S)
    → StaysSource len known faults s s
stays_as_it_was len known faults s = record { same_len = refl; same_bytes = refl; later = omega arith }

-- a call that reads nothing
pub reads_nothing :
    {S T E : Type 0} (len : S → ℕ) (known : S → Option (List ℕ)) (faults : S → ℕ) (Cause : ℕ → ℕ → E → Type 0) (s : S)
    (r : Result T E)
    → IfErr r (Cause (faults s) (faults s)) → ReadsSource len known faults Cause s s r
reads_nothing len known faults Cause s (Ok x) cause =
    record { stays = stays_as_it_was len known faults s; quiet = refl; cause = tt }
reads_nothing len known faults Cause s (Err e) cause =
    record { stays = stays_as_it_was len known faults s; quiet = tt; cause = cause }

-- a call whose answer comes after the one below had one
pub reads_then :
    {S T U E F : Type 0} (len : S → ℕ) (known : S → Option (List ℕ)) (faults : S → ℕ) (Below : ℕ → ℕ → E → Type 0)
    (Cause : ℕ → ℕ → F → Type 0) (old new : S) (x : T) (r : Result U F)
    → IfErr r (Cause (faults old) (faults new))
    → ReadsSource len known faults Below old new (Ok x) → ReadsSource len known faults Cause old new r
reads_then len known faults Below Cause old new x (Ok y) cause h =
    record { stays = h.stays; quiet = h.quiet; cause = tt }
reads_then len known faults Below Cause old new x (Err e) cause h =
    record { stays = h.stays; quiet = tt; cause = cause }

-- a call that hands up an error of the one below
pub reads_error :
    {S T U E F : Type 0} (len : S → ℕ) (known : S → Option (List ℕ)) (faults : S → ℕ) (Below : ℕ → ℕ → E → Type 0)
    (Cause : ℕ → ℕ → F → Type 0) (old new : S) (e : E) (f : F)
    → (Below (faults old) (faults new) e → Cause (faults old) (faults new) f)
    → ReadsSource {T = T} len known faults Below old new (Err e)
    → ReadsSource {T = U} len known faults Cause old new (Err f)
reads_error len known faults Below Cause old new e f same h =
    record { stays = h.stays; quiet = tt; cause = same h.cause }

-- a call that reads after one that had an answer
pub reads_next :
    {S T U E F : Type 0} (len : S → ℕ) (known : S → Option (List ℕ)) (faults : S → ℕ) (Below : ℕ → ℕ → E → Type 0)
    (Cause : ℕ → ℕ → F → Type 0) (old between new : S) (x : T) (r : Result U F)
    → ReadsSource len known faults Below old between (Ok x)
    → ReadsSource len known faults Cause between new r → ReadsSource len known faults Cause old new r
reads_next len known faults Below Cause old between new x r h k = record {
  stays = source_stays len known faults old between new h.stays k.stays;
  quiet = subst (λ (n : ℕ). OnOk r (faults new ≡ n)) h.quiet k.quiet;
  cause = subst (λ (n : ℕ). IfErr r (Cause n (faults new))) h.quiet k.cause;
}
