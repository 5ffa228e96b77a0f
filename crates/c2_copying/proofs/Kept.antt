-- What calls leave of a source and of a sink, one call after another.
use Rattle.std.proofs.Common.{◌≡◌, ℕ, Bool, List, Option, Ok, Err, ◌∙◌, subst}
use Rattle.std.specs.declared.result.Result.{Result}
use Rattle.c2_base.specs.Sink.{StaysSink, WritesSink}
use Rattle.c2_base.specs.Source.{ReadsSource, StaysSource}
use Rattle.c2_copying.specs.Writing.{StaysFollow}
use Rattle.c2_base.proofs.Growing.{stays_still, stays_then}
use Rattle.c2_base.proofs.Written.{source_stays}

-- ---- a source

-- calls that left the count, and then one more
pub reads_then :
    {S T E : Type 0} (len : S → ℕ) (known : S → Option (List ℕ)) (faults : S → ℕ) (IsCause : ℕ → ℕ → E → Type 0)
    (a b c : S) (r : Result T E)
    → StaysSource len known faults a b → faults b ≡ faults a
    → ReadsSource len known faults IsCause b c r → ReadsSource len known faults IsCause a c r
reads_then len known faults IsCause a b c (Ok x) h same k =
    record { stays = source_stays len known faults a b c h k.stays; quiet = k.quiet ∙ same; cause = tt }
reads_then len known faults IsCause a b c (Err e) h same k =
    record
    { stays = source_stays len known faults a b c h k.stays; quiet = tt; cause = subst (λ (n : ℕ). IsCause n (faults c) e) same k.cause }

-- ---- a sink

-- calls that left the count, and then one more
pub writes_then :
    {K T E : Type 0} (written : K → Option (List ℕ)) (finished : K → Bool) (faults : K → ℕ)
    (IsCause : ℕ → ℕ → E → Type 0) (a b c : K) (r : Result T E)
    → StaysSink written finished faults a b → faults b ≡ faults a
    → WritesSink written finished faults IsCause b c r → WritesSink written finished faults IsCause a c r
writes_then written finished faults IsCause a b c (Ok x) h same k =
    record { stays = stays_then written finished faults a b c h k.stays; quiet = k.quiet ∙ same; cause = tt }
writes_then written finished faults IsCause a b c (Err e) h same k =
    record
    { stays = stays_then written finished faults a b c h k.stays; quiet = tt; cause = subst (λ (n : ℕ). IsCause n (faults c) e) same k.cause }

-- a sink stays over calls
pub follow_stays : {K : Type 0} (written : K → Option (List ℕ)) (finished : K → Bool) (faults : K → ℕ)
    → StaysFollow written finished faults
follow_stays written finished faults =
    record { still = stays_still written finished faults; both = stays_then written finished faults }
