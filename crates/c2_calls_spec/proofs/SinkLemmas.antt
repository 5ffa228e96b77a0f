-- What a call leaves of its sink, put together from what the calls below it leave.
use Rattle.std.proofs.Common.{◌≡◌, ℕ, Bool, List, Result, Ok, Err, IfErr, OnOk, take, refl, ◌∙◌, subst, arith}
use Rattle.std.specs.declared.option.Option.{Option}
use Rattle.c2_base.specs.Causes.{HasCause}
use Rattle.c2_base.specs.Sink.{Appends, StaysSink, TakesPrefix, WritesSink}
use Rattle.c2_base.proofs.Growing.{grows_then}
use Rattle.c2_base.proofs.Written.{grows_none}
use Rattle.c2_lemmas.proofs.Results.{on_ok}

module _ {K : Type 0} {written : K → Option (List ℕ)} {finished : K → Bool} {faults : K → ℕ} where
  -- a sink is left as it was
  pub sink_as_it_was : (k : K) → StaysSink written finished faults k k
  sink_as_it_was k = record { later = omega arith; grows = grows_none (written k); unfinished = refl }

  -- a text was written, and no call failed
  pub sink_so_far : (text : List ℕ) (a b : K) → Appends (written a) (written b) text → finished b ≡ finished a
      → faults b ≡ faults a → StaysSink written finished faults a b
  sink_so_far text a b wrote same quiet =
      record { later = omega (arith, quiet); grows = (text, wrote); unfinished = same }

  -- one call after another
  pub sink_next : (a b c : K) → StaysSink written finished faults a b → StaysSink written finished faults b c
      → StaysSink written finished faults a c
  sink_next a b c h k = record {
    later = omega (arith, h.later, k.later);
    grows = grows_then (written a) (written b) (written c) h.grows k.grows;
    unfinished = k.unfinished ∙ h.unfinished;
  }

  -- a call that writes nothing
  pub writes_nothing : {T E : Type 0} {Cause : ℕ → ℕ → E → Type 0} (k : K) (r : Result T E)
      → IfErr r (Cause (faults k) (faults k)) → WritesSink written finished faults Cause k k r
  writes_nothing k r cause =
      record { stays = sink_as_it_was k; quiet = on_ok (faults k ≡ faults k) r refl; cause = cause }

  -- a call that ends after calls that succeeded
  pub writes_done : {T E : Type 0} {Cause : ℕ → ℕ → E → Type 0} (a b : K) (r : Result T E)
      → StaysSink written finished faults a b → faults b ≡ faults a → IfErr r (Cause (faults a) (faults b))
      → WritesSink written finished faults Cause a b r
  writes_done a b r stays quiet cause =
      record { stays = stays; quiet = on_ok (faults b ≡ faults a) r quiet; cause = cause }

  -- a call whose answer comes after the one below had one
  pub writes_then :
      {T U E F : Type 0} {Below : ℕ → ℕ → E → Type 0} {Cause : ℕ → ℕ → F → Type 0} (a b : K) (x : T) (r : Result U F)
      → IfErr r (Cause (faults a) (faults b))
      → WritesSink written finished faults Below a b (Ok x) → WritesSink written finished faults Cause a b r
  writes_then a b x r cause h = writes_done a b r h.stays h.quiet cause

  -- a call that hands up an error of the one below
  pub writes_error :
      {T U E F : Type 0} {Below : ℕ → ℕ → E → Type 0} {Cause : ℕ → ℕ → F → Type 0} (a b : K) (e : E) (f : F)
      → (Below (faults a) (faults b) e → Cause (faults a) (faults b) f)
      → WritesSink {T = T} written finished faults Below a b (Err e)
      → WritesSink {T = U} written finished faults Cause a b (Err f)
  writes_error a b e f same h = record { stays = h.stays; quiet = tt; cause = same h.cause }

  -- a call that writes after calls that succeeded
  pub writes_next : {T E : Type 0} {Cause : ℕ → ℕ → E → Type 0} (a b c : K) (r : Result T E)
      → StaysSink written finished faults a b → faults b ≡ faults a → WritesSink written finished faults Cause b c r
      → WritesSink written finished faults Cause a c r
  writes_next {T} {E} {Cause} a b c r stays quiet h = record {
    stays = sink_next a b c stays h.stays;
    quiet = subst (λ (n : ℕ). OnOk r (faults c ≡ n)) quiet h.quiet;
    cause = subst (λ (n : ℕ). IfErr r (Cause n (faults c))) quiet h.cause;
  }

  -- a call that took a prefix of its bytes, all of them unless it failed
  pub writes_taken :
      {T E : Type 0} {Cause : ℕ → ℕ → E → Type 0} (spare : K → Option ℕ) (bytes : List ℕ) (a b : K) (r : Result T E)
      → TakesPrefix written spare bytes a b → finished b ≡ finished a
      → HasCause (faults a) (faults b) r → IfErr r (Cause (faults a) (faults b))
      → WritesSink written finished faults Cause a b r
  writes_taken spare bytes a b r taken same h cause = record {
    stays = record { later = h.later; grows = (take taken.count bytes, taken.prefix); unfinished = same };
    quiet = h.ok;
    cause = cause;
  }
