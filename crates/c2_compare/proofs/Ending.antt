-- What a comparison leaves of its sources and its report, by where it ends.
use Rattle.std.proofs.Common.{◌≡◌, inl, inr, ℕ, Bool, List, Option, Result, Ok, Err, IfErr, OnOk, refl, sym, subst}
use Rattle.c2_base.specs.Causes.{Rose}
use Rattle.c2_base.specs.Sink.{WritesSink}
use Rattle.c2_base.specs.Source.{ReadsSource, StaysSource}
use Rattle.c2_opening.specs.declared.error.ValidateError.{ValidateError}
use Rattle.c2_opening.specs.declared.error.ValidateError.TheVariants as error
use Rattle.c2_compare_spec.specs.declared.compared.Compared.{Compared}
use Rattle.c2_compare_spec.specs.declared.compared.Side.{Side}
use Rattle.c2_compare_evidence.specs.Causes.{IsReadCauseBeside, IsUnjudged, IsReportCause}
use Rattle.c2_compare_evidence.specs.declared.error.CompareError.{CompareError}
use Rattle.c2_compare_evidence.specs.declared.error.CompareError.TheVariants.{JudgeFault, NoMemory}
use Rattle.c2_calls_spec.proofs.BesideLemmas.{reads_beside}
use Rattle.c2_calls_spec.proofs.SinkLemmas.{writes_nothing}
use Rattle.c2_calls_spec.proofs.SourceLemmas.{reads_nothing}
use Rattle.c2_compare.specs.Accepting.{IsEnded, IsUnread, LeavesFiles, ended_as}
use Rattle.c2_compare.specs.declared.accepting.Unaccepted.{Unaccepted}
use Rattle.c2_compare.specs.declared.accepting.Unaccepted.TheVariants.{Refused, Failed}
use Rattle.c2_base.proofs.Written.{source_stays}

-- a call that asks nobody doesn't fail by a judge
pub unjudged : {T : Type 0} (claim : Type 0) (r : Result T CompareError) → IfErr r IsUnjudged
    → IfErr r (λ e. e ≡ JudgeFault → claim)
unjudged claim (Ok x) h = tt
unjudged claim (Err e) h = λ is. absurd (subst IsUnjudged is h)

-- a call that reads after one that left the count of faults
reads_after :
    {S T E : Type 0} {Cause : ℕ → ℕ → E → Type 0} (len : S → ℕ) (known : S → Option (List ℕ)) (faults : S → ℕ)
    (a b c : S) (r : Result T E)
    → StaysSource len known faults a b → faults b ≡ faults a
    → ReadsSource len known faults Cause b c r → ReadsSource len known faults Cause a c r
reads_after {S} {T} {E} {Cause} len known faults a b c r stays quiet h = record {
  stays = source_stays len known faults a b c stays h.stays;
  quiet = subst (λ (n : ℕ). OnOk r (faults c ≡ n)) quiet h.quiet;
  cause = subst (λ (n : ℕ). IfErr r (Cause n (faults c))) quiet h.cause;
}

module _ {A B W : Type 0} {len : A → ℕ} {known : A → Option (List ℕ)} {faults : A → ℕ} {other_len : B → ℕ} {other_known : B → Option (List ℕ)} {other_faults : B → ℕ}
    {written : W → Option (List ℕ)} {finished : W → Bool} {write_faults : W → ℕ} where
  -- ---- the comparison ends before anything is written

  -- at the first source
  pub leaves_first : {T : Type 0} {IsCause : ℕ → ℕ → ValidateError → Type 0} (a a' : A) (b : B) (w : W) (side : Side) (u : Unaccepted) (r : Result Compared CompareError)
      → (IsCause (faults a) (faults a') error.ReadFault → Rose (faults a) (faults a')) → r ≡ ended_as side u
      → ReadsSource {T = T} len known faults (IsEnded IsCause) a a' (Err u)
      → LeavesFiles len known faults other_len other_known other_faults written finished write_faults a a' b b w w r
  leaves_first {T} {IsCause} a a' b w side u r rose same h = subst (LeavesFiles len known faults other_len other_known other_faults written finished write_faults a a' b b w w) (sym same) (by u h)
    where
      by : (u : Unaccepted) → ReadsSource {T = T} len known faults (IsEnded IsCause) a a' (Err u)
          → LeavesFiles len known faults other_len other_known other_faults written finished write_faults a a' b b w w (ended_as side u)
      by (Refused x) h =
          record
          { first = record { stays = h.stays; quiet = h.cause; cause = tt }; second = reads_nothing other_len other_known other_faults _ b _ tt; report = writes_nothing w _ tt; judged = tt }
      by (Failed error.ReadFault) h =
          record
          { first = record { stays = h.stays; quiet = tt; cause = inl (rose h.cause) }; second = reads_nothing other_len other_known other_faults _ b _ (inr (rose h.cause)); report = writes_nothing w _ tt; judged = λ is. refl }
      by (Failed error.JudgeFault) h =
          record
          { first = record { stays = h.stays; quiet = tt; cause = tt }; second = reads_nothing other_len other_known other_faults _ b _ tt; report = writes_nothing w _ tt; judged = λ is. refl }
      by (Failed error.NoMemory) h =
          record
          { first = record { stays = h.stays; quiet = tt; cause = tt }; second = reads_nothing other_len other_known other_faults _ b _ tt; report = writes_nothing w _ tt; judged = λ is. refl }

  -- at the second source
  pub leaves_second : {T : Type 0} {IsCause : ℕ → ℕ → ValidateError → Type 0} (a : A) (b b' : B) (w : W) (side : Side) (u : Unaccepted) (r : Result Compared CompareError)
      → (IsCause (other_faults b) (other_faults b') error.ReadFault → Rose (other_faults b) (other_faults b'))
      → r ≡ ended_as side u
      → ReadsSource {T = T} other_len other_known other_faults (IsEnded IsCause) b b' (Err u)
      → LeavesFiles len known faults other_len other_known other_faults written finished write_faults a a b b' w w r
  leaves_second {T} {IsCause} a b b' w side u r rose same h = subst (LeavesFiles len known faults other_len other_known other_faults written finished write_faults a a b b' w w) (sym same) (by u h)
    where
      by : (u : Unaccepted) → ReadsSource {T = T} other_len other_known other_faults (IsEnded IsCause) b b' (Err u)
          → LeavesFiles len known faults other_len other_known other_faults written finished write_faults a a b b' w w (ended_as side u)
      by (Refused x) h =
          record
          { first = reads_nothing len known faults _ a _ tt; second = record { stays = h.stays; quiet = h.cause; cause = tt }; report = writes_nothing w _ tt; judged = tt }
      by (Failed error.ReadFault) h =
          record
          { first = reads_nothing len known faults _ a _ (inr (rose h.cause)); second = record { stays = h.stays; quiet = tt; cause = inl (rose h.cause) }; report = writes_nothing w _ tt; judged = λ is. refl }
      by (Failed error.JudgeFault) h =
          record
          { first = reads_nothing len known faults _ a _ tt; second = record { stays = h.stays; quiet = tt; cause = tt }; report = writes_nothing w _ tt; judged = λ is. refl }
      by (Failed error.NoMemory) h =
          record
          { first = reads_nothing len known faults _ a _ tt; second = record { stays = h.stays; quiet = tt; cause = tt }; report = writes_nothing w _ tt; judged = λ is. refl }

  -- memory runs out
  pub leaves_memory : (a : A) (b : B) (w : W)
      → LeavesFiles {T = Compared} len known faults other_len other_known other_faults written finished write_faults a a b b w w (Err NoMemory)
  leaves_memory a b w =
      record
      { first = reads_nothing len known faults _ a _ tt; second = reads_nothing other_len other_known other_faults _ b _ tt; report = writes_nothing w _ tt; judged = λ is. refl }

  -- without a look at either source
  pub leaves_unread : (a : A) (b : B) (w : W) (side : Side) (u : Unaccepted) (r : Result Compared CompareError)
      → r ≡ ended_as side u → IsUnread u
      → LeavesFiles len known faults other_len other_known other_faults written finished write_faults a a b b w w r
  leaves_unread a b w side u r same h = subst (LeavesFiles len known faults other_len other_known other_faults written finished write_faults a a b b w w) (sym same) (by u h)
    where
      by : (u : Unaccepted) → IsUnread u
          → LeavesFiles len known faults other_len other_known other_faults written finished write_faults a a b b w w (ended_as side u)
      by (Refused x) h =
          record
          { first = reads_nothing len known faults _ a _ tt; second = reads_nothing other_len other_known other_faults _ b _ tt; report = writes_nothing w _ tt; judged = tt }
      by (Failed error.ReadFault) h = absurd (cc (h))
      by (Failed error.JudgeFault) h = absurd (cc (h))
      by (Failed error.NoMemory) h = leaves_memory a b w

  -- ---- it goes on

  -- after a call that read the first source
  pub leaves_on_first : (a a' a'' : A) (b b' : B) (w w' : W) (r : Result Compared CompareError)
      → StaysSource len known faults a a' → faults a' ≡ faults a
      → LeavesFiles len known faults other_len other_known other_faults written finished write_faults a' a'' b b' w w' r
      → LeavesFiles len known faults other_len other_known other_faults written finished write_faults a a'' b b' w w' r
  leaves_on_first a a' a'' b b' w w' r stays quiet h = record {
    first = reads_after len known faults a a' a'' r stays quiet h.first;
    second = reads_beside IsReadCauseBeside (faults a) (faults a') (faults a'') b b' r quiet h.second;
    report = h.report;
    judged = h.judged;
  }

  -- after one that read the second
  pub leaves_on_second : (a a' : A) (b b' b'' : B) (w w' : W) (r : Result Compared CompareError)
      → StaysSource other_len other_known other_faults b b' → other_faults b' ≡ other_faults b
      → LeavesFiles len known faults other_len other_known other_faults written finished write_faults a a' b' b'' w w' r
      → LeavesFiles len known faults other_len other_known other_faults written finished write_faults a a' b b'' w w' r
  leaves_on_second a a' b b' b'' w w' r stays quiet h = record {
    first = reads_beside IsReadCauseBeside (other_faults b) (other_faults b') (other_faults b'') a a' r quiet h.first;
    second = reads_after other_len other_known other_faults b b' b'' r stays quiet h.second;
    report = h.report;
    judged = h.judged;
  }

  -- by a call over both that asks nobody
  pub leaves_unjudged : (a a' : A) (b b' : B) (w w' : W) (r : Result Compared CompareError) → IfErr r IsUnjudged
      → ReadsSource len known faults (IsReadCauseBeside (other_faults b) (other_faults b')) a a' r
      → ReadsSource other_len other_known other_faults (IsReadCauseBeside (faults a) (faults a')) b b' r
      → WritesSink written finished write_faults IsReportCause w w' r
      → LeavesFiles len known faults other_len other_known other_faults written finished write_faults a a' b b' w w' r
  leaves_unjudged a a' b b' w w' r quiet first second report =
      record { first = first; second = second; report = report; judged = unjudged (w' ≡ w) r quiet }
