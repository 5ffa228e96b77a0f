-- For private clauses: a media file that is opened once, and checked.
use Rattle.std.specs.Prelude.{◌≡◌, ℕ, ⊤, Bool, List, Ok, Err, Some, IfErr}
use Rattle.std.specs.declared.option.Option.{Option}
use Rattle.std.specs.declared.result.Result.{Result}
use Rattle.c2_base.specs.Sink.{WritesSink}
use Rattle.c2_base.specs.Source.{ReadsSource}
use Rattle.c2_base.specs.declared.values.Question.{Question}
use Rattle.c2_spec.specs.Jumbf.Tree.{Tree}
use Rattle.c2_spec.specs.Located.{Opening, refused, absent, here}
use Rattle.c2_spec.specs.declared.digest.Alg.{Alg}
use Rattle.c2_spec.specs.declared.panel.Verdict.{Verdict}
use Rattle.c2_rules.specs.Asking.{Heard, all}
use Rattle.c2_rules.specs.Opened.{IsOpened}
use Rattle.c2_rules.specs.Validated.{CheckAsks}
use Rattle.c2_rules.specs.declared.answer.Answer.{Answer}
use Rattle.c2_rules.specs.declared.answer.Answer.TheVariants as answer
use Rattle.c2_opening.specs.declared.error.ValidateError.{ValidateError}
use Rattle.c2_opening.specs.declared.error.ValidateError.TheVariants as error
use Rattle.c2_compare_spec.specs.Comparison.{IsRefusedFirst}
use Rattle.c2_compare_spec.specs.declared.compared.Compared.{Compared}
use Rattle.c2_compare_spec.specs.declared.compared.Compared.TheVariants.{NotAccepted}
use Rattle.c2_compare_spec.specs.declared.compared.Side.{Side}
use Rattle.c2_compare_evidence.specs.Causes.{IsReadCauseBeside, IsReportCause}
use Rattle.c2_compare_evidence.specs.declared.error.CompareError.{CompareError}
use Rattle.c2_compare_evidence.specs.declared.error.CompareError.TheVariants.{ReadFault, JudgeFault, NoMemory}
use Rattle.c2_validate.specs.Checked.{validate_heard}
use Rattle.c2_compare.specs.declared.accepting.Unaccepted.{Unaccepted}
use Rattle.c2_compare.specs.declared.accepting.Unaccepted.TheVariants.{Refused, Failed}

-- ---- what is found of a file

-- this is what the check answers where a file is opened as no store
abbrev pub IsStoreless : Opening Tree → Answer → Type 0
IsStoreless (refused reason number) a = a ≡ answer.Refused reason number
IsStoreless absent a = a ≡ answer.NoStore
IsStoreless (here start len t) a = ⊥

-- a file that is opened as no store isn't compared
abbrev pub IsUnopened : List ℕ → Unaccepted → Type 0
IsUnopened file (Refused a) = (what : Opening Tree) × IsOpened file what × IsStoreless what a
IsUnopened file (Failed e) = ⊤

-- a file isn't compared whose check answers that it isn't accepted
abbrev pub IsUnaccepted : (Alg → List ℕ → List ℕ) → (Question → Verdict) → List ℕ → Unaccepted
    → Type 0
IsUnaccepted hash said file (Refused a) = IsRefusedFirst hash said file a
IsUnaccepted hash said file (Failed e) = ⊤

-- ---- what a call that finds this leaves of its source and its judges

-- a refusal leaves the source's count of faults; an error has this cause
abbrev pub IsEnded : (ℕ → ℕ → ValidateError → Type 0) → ℕ → ℕ → Unaccepted → Type 0
IsEnded IsCause before now (Refused a) = now ≡ before
IsEnded IsCause before now (Failed e) = IsCause before now e

-- a call that reads no source fails for want of memory alone
abbrev pub IsUnread : Unaccepted → Type 0
IsUnread (Refused a) = ⊤
IsUnread (Failed e) = e ≡ error.NoMemory

-- a refusal comes after the last question of the check
abbrev pub ended_heard : Unaccepted → Heard
ended_heard (Refused a) = all
ended_heard (Failed e) = validate_heard e

-- where a panel says this, the check of a source of which these bytes are known asks these questions
pub record AsksChecked (hash : Alg → List ℕ → List ℕ) (known : Option (List ℕ))
    (said : Question → Verdict) (qs : List Question) : Type 0 where
  pub file : List ℕ
  pub is_file : known ≡ Some file
  pub asks : CheckAsks hash said file qs

-- ---- what the comparison ends with

-- the fault that an error of the check stands for
abbrev pub fault_of : ValidateError → CompareError
fault_of error.ReadFault = ReadFault
fault_of error.JudgeFault = JudgeFault
fault_of error.NoMemory = NoMemory

-- what the comparison ends with at a file that isn't compared
abbrev pub ended_as : Side → Unaccepted → Result Compared CompareError
ended_as side (Refused a) = Ok (NotAccepted side a)
ended_as side (Failed e) = Err (fault_of e)

-- What a comparison leaves of two sources and a report: a source's `ReadFault` may be the other's, and where a judge fails the report is as it
-- was.
pub record LeavesFiles {A B W T : Type 0} (len : A → ℕ) (known : A → Option (List ℕ)) (faults : A → ℕ)
    (other_len : B → ℕ) (other_known : B → Option (List ℕ)) (other_faults : B → ℕ)
    (written : W → Option (List ℕ)) (finished : W → Bool) (write_faults : W → ℕ)
    (a a' : A) (b b' : B) (w w' : W) (result : Result T CompareError) : Type 0 where
  pub first : ReadsSource len known faults (IsReadCauseBeside (other_faults b) (other_faults b')) a a' result
  pub second : ReadsSource other_len other_known other_faults (IsReadCauseBeside (faults a) (faults a')) b b'
      result
  pub report : WritesSink written finished write_faults IsReportCause w w' result
  pub judged : IfErr result (λ e. e ≡ JudgeFault → w' ≡ w)
