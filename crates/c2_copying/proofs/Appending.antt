-- One append after another.
use Rattle.std.proofs.Common.{◌≡◌, refl, sym, ap, ◌∙◌, subst, ℕ, Bool, List, ◌++◌, length, Result, Ok, Err, arith, length-append}
use Rattle.std.specs.declared.option.Option.{Option}
use Rattle.c2_base.specs.Causes.{Rose}
use Rattle.c2_base.specs.Sink.{then_written, spare_less, OkWithinSpare}
use Rattle.c2_copying.specs.Appending.{IsWriting}
use Rattle.c2_base.proofs.Written.{appended_twice, prefix-back, prefix-front, spare_less_two, within-back}

-- the same of an equal list and an equal answer
pub same : {K T E : Type 0} (written : K → Option (List ℕ)) (spare : K → Option ℕ) (finished : K → Bool) (faults : K → ℕ) (xs ys : List ℕ) (old new : K) (r q : Result T E)
    → xs ≡ ys → r ≡ q → IsWriting written spare finished faults xs old new r
    → IsWriting written spare finished faults ys old new q
same written spare finished faults xs ys old new r q list answer h =
    subst (λ zs. IsWriting written spare finished faults zs old new q) list
    (subst (λ a. IsWriting written spare finished faults xs old new a) answer h)

-- where the first append fails, so does the whole
pub stops : {K T E : Type 0} (written : K → Option (List ℕ)) (spare : K → Option ℕ) (finished : K → Bool) (faults : K → ℕ) (front back : List ℕ) (old new : K) (e f : E)
    → IsWriting {K = K} {T = T} {E = E} written spare finished faults front old new (Err e)
    → IsWriting {K = K} {T = T} {E = E} written spare finished faults (front ++ back) old new (Err f)
stops written spare finished faults front back old new e f h = record {
  all = tt;
  less = tt;
  prefix = prefix-front written spare front back old new h.prefix;
  unfinished = h.unfinished;
  cause = record { later = h.cause.later; ok = tt; failed = h.cause.failed };
  within = λ s is fits. h.within s is (omega (arith, fits, length-append front back));
}

-- one append and then another are the append of both lists
pub follows : {K T E : Type 0} (written : K → Option (List ℕ)) (spare : K → Option ℕ) (finished : K → Bool) (faults : K → ℕ) (front back : List ℕ) (old mid new : K) (x : T) (r : Result T E)
    → IsWriting {K = K} {T = T} {E = E} written spare finished faults front old mid (Ok x)
    → IsWriting written spare finished faults back mid new r
    → IsWriting written spare finished faults (front ++ back) old new r
follows written spare finished faults front back old mid new x (Ok y) h k = record {
  all = k.all ∙ ap (λ w. then_written w back) h.all ∙ appended_twice (written old) front back;
  less =
      k.less ∙ ap (λ s. spare_less s (length back)) h.less ∙ spare_less_two (spare old) (length front) (length back)
      ∙ ap (spare_less (spare old)) (sym (length-append front back));
  prefix = prefix-back written spare front back old mid new h.all h.less k.prefix;
  unfinished = k.unfinished ∙ h.unfinished;
  cause = record { later = omega (arith, h.cause.later, k.cause.later); ok = k.cause.ok ∙ h.cause.ok; failed = tt };
  within = λ s is fits. refl;
}
follows {T = T} {E = E} written spare finished faults front back old mid new x (Err e) h k = record {
  all = tt;
  less = tt;
  prefix = prefix-back written spare front back old mid new h.all h.less k.prefix;
  unfinished = k.unfinished ∙ h.unfinished;
  cause =
      record
      { later = omega (arith, h.cause.later, k.cause.later); ok = tt; failed = subst (λ n. Rose n (faults new)) h.cause.ok k.cause.failed };
  within =
      λ s is fits. within-back {T = T} {E = E} (spare old) (length front) (length back) (Err e) (subst (λ t. OkWithinSpare {T = T} {E = E} t (length back) (Err e)) h.less k.within) s is (omega (arith, fits, length-append front back));
}
