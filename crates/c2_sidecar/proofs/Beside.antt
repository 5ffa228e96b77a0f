-- What is left of two sources of which one is read, and then the other; and a store that is too long, of which only the length is asked.
use Rattle.std.proofs.Common.{◌≡◌, ap, arith, inl, inr, subst, ◌∙◌, ℕ, ◌<◌, Bool, true, List, [], length, lt-ltb, nat_lt, MatchBool, Option, Result, Ok, Err, IfErr}
use Rattle.c2_base.specs.declared.limits.TheConstants.{MAX_STORE_LEN}
use Rattle.c2_base.specs.declared.values.Question.{Question}
use Rattle.c2_rules.specs.Opened.{IsManifestStore}
use Rattle.c2_spec.specs.Jumbf.Tree.{Tree}
use Rattle.c2_spec.specs.Located.{Opening, refused}
use Rattle.c2_spec.specs.declared.digest.Alg.{Alg}
use Rattle.c2_spec.specs.declared.panel.Verdict.{Verdict}
use Rattle.c2_spec.specs.declared.reason.Reason.TheVariants.{StoreTooLarge}
use Rattle.c2_rules.specs.CheckList.{check_asks}
use Rattle.c2_rules.specs.Validated.{OpenedAsks}
use Rattle.c2_validate.specs.External.{IsExternalStore, ListAsks}
use Rattle.c2_base.specs.Source.{ReadsSource, StaysSource}
use Rattle.c2_opening.specs.declared.error.ValidateError.{ValidateError}
use Rattle.c2_opening.specs.declared.error.ValidateError.TheVariants.{ReadFault, JudgeFault, NoMemory}
use Rattle.c2_validate.specs.Checked.{IsCheckReadCause}
use Rattle.c2_sidecar.specs.Checking.{IsSourceCause}

module _ {S T : Type 0} {len : S → ℕ} {known : S → Option (List ℕ)} {faults : S → ℕ} where
  -- of the one that is read last, where an error may come from either
  pub reads_last : (before now : ℕ) (a b : S) (r : Result T ValidateError)
      → ReadsSource len known faults IsCheckReadCause a b r
      → ReadsSource len known faults (IsSourceCause before now) a b r
  reads_last before now a b (Ok x) h = record { stays = h.stays; quiet = h.quiet; cause = tt }
  reads_last before now a b (Err ReadFault) h = record { stays = h.stays; quiet = tt; cause = inl h.cause }
  reads_last before now a b (Err JudgeFault) h = record { stays = h.stays; quiet = tt; cause = tt }
  reads_last before now a b (Err NoMemory) h = record { stays = h.stays; quiet = tt; cause = tt }

  -- of the one that was read before
  pub reads_first : (before now : ℕ) (a b : S) (r : Result T ValidateError) → StaysSource len known faults a b
      → faults b ≡ faults a → IfErr r (IsCheckReadCause before now)
      → ReadsSource len known faults (IsSourceCause before now) a b r
  reads_first before now a b (Ok x) stays quiet cause = record { stays = stays; quiet = quiet; cause = tt }
  reads_first before now a b (Err ReadFault) stays quiet cause =
      record { stays = stays; quiet = tt; cause = inr cause }
  reads_first before now a b (Err JudgeFault) stays quiet cause = record { stays = stays; quiet = tt; cause = tt }
  reads_first before now a b (Err NoMemory) stays quiet cause = record { stays = stays; quiet = tt; cause = tt }

-- ---- a store that is too long

-- what a list of so many bytes is opened as
long_is : (store : List ℕ) (len : ℕ) (what : Opening Tree) → length store ≡ len → MAX_STORE_LEN < len
    → IsExternalStore store what → what ≡ refused StoreTooLarge len
long_is store len what same long h =
    let large : nat_lt MAX_STORE_LEN (length store) ≡ true =
    lt-ltb MAX_STORE_LEN (length store) (omega (arith, same, long)) in
    subst
    (λ (b : Bool). MatchBool b (what ≡ refused StoreTooLarge (length store)) (IsManifestStore 0 0 store what))
    large h
    ∙ ap (λ n. refused StoreTooLarge n) same

-- nothing is asked of it
pub long_unasked : (hash : Alg → List ℕ → List ℕ) (said : Question → Verdict) (store : List ℕ) (len : ℕ) (qs : List Question)
    → length store ≡ len → MAX_STORE_LEN < len → ListAsks hash store said qs → qs ≡ []
long_unasked hash said store len qs same long k =
    subst (λ (o : Opening Tree). OpenedAsks (check_asks hash said) o qs) (long_is store len k.0 same long k.1) k.2
