-- What calls leave of a source, one call after another.
use Rattle.std.proofs.Common.{◌≡◌, ℕ, List, Option, Err, subst}
use Rattle.c2_base.specs.Source.{ReadsSource, StaysSource}
use Rattle.c2_base.proofs.Written.{source_stays}

-- calls that left the count, and then one that failed, with a cause by the source's length
pub reads_failed :
    {S T U E : Type 0} (len : S → ℕ) (known : S → Option (List ℕ)) (faults : S → ℕ) (IsCause : ℕ → ℕ → ℕ → E → Type 0)
    (a b c : S) (e : E)
    → StaysSource len known faults a b → faults b ≡ faults a
    → ReadsSource {T = T} len known faults (IsCause (len b)) b c (Err e)
    → ReadsSource {T = U} len known faults (IsCause (len a)) a c (Err e)
reads_failed len known faults IsCause a b c e h same k = record {
  stays = source_stays len known faults a b c h k.stays;
  quiet = tt;
  cause =
      subst (λ (n : ℕ). IsCause (len a) n (faults c) e) same
      (subst (λ (n : ℕ). IsCause n (faults b) (faults c) e) h.same_len k.cause);
}
