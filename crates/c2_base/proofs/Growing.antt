-- What calls that write leave of a sink, one after the other.
use Rattle.std.proofs.Common.{◌≡◌, refl, ap, ◌∙◌, ℕ, ◌≤◌, Bool, List, ◌++◌, take, arith}
use Rattle.std.specs.declared.option.Option.{Option}
use Rattle.c2_base.specs.Sink.{Grows, HasWrittenPrefix, StaysSink, TakesPrefix, then_written}
use Rattle.c2_base.proofs.Written.{appended_twice, grows_none}

-- what was written stays under what follows
pub grows_then : (a b c : Option (List ℕ)) → Grows a b → Grows b c → Grows a c
grows_then a b c g h = (g.0 ++ h.0, h.1 ∙ ap (λ x. then_written x h.0) g.1 ∙ appended_twice a g.0 h.0)

-- a prefix of a text was written
pub grows_prefix : (a b : Option (List ℕ)) (text : List ℕ) → HasWrittenPrefix a b text → Grows a b
grows_prefix a b text h = (take h.0 text, h.1)

-- a sink that no call has touched
pub stays_still : {K : Type 0} (written : K → Option (List ℕ)) (finished : K → Bool) (faults : K → ℕ) (k : K)
    → StaysSink written finished faults k k
stays_still {K} written finished faults k =
    record { later = omega arith; grows = grows_none (written k); unfinished = refl }

-- two calls, one after the other
pub stays_then : {K : Type 0} (written : K → Option (List ℕ)) (finished : K → Bool) (faults : K → ℕ) (a b c : K)
    → StaysSink written finished faults a b → StaysSink written finished faults b c
    → StaysSink written finished faults a c
stays_then {K} written finished faults a b c p q = record {
  later = omega (arith, p.later, q.later);
  grows = grows_then (written a) (written b) (written c) p.grows q.grows;
  unfinished = q.unfinished ∙ p.unfinished;
}

-- a call that took a prefix of a text
pub stays_taken : {K : Type 0} (written : K → Option (List ℕ)) (finished : K → Bool) (faults : K → ℕ) (spare : K → Option ℕ) (bytes : List ℕ) (old new : K)
    → TakesPrefix written spare bytes old new → finished new ≡ finished old → faults old ≤ faults new
    → StaysSink written finished faults old new
stays_taken {K} written finished faults spare bytes old new h same later =
    record { later = later; grows = (take h.count bytes, h.prefix); unfinished = same }
