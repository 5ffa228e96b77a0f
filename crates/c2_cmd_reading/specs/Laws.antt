-- That a command that reads comes to one outcome at most and asks one list of questions at most, and to one where its files are bytes.
use Rattle.std.specs.Prelude.{◌≡◌, ℕ, ◌<◌, ◌^◌, All, List}
use Rattle.c2_base.specs.declared.values.Question.{Question}
use Rattle.c2_spec.specs.declared.digest.Alg.{Alg}
use Rattle.c2_spec.specs.declared.panel.Verdict.{Verdict}
use Rattle.c2_compare_spec.specs.Comparison.{CompareAsks}
use Rattle.c2_rules.specs.Validated.{AreQuestions, CheckAsks}
use Rattle.c2_validate.specs.External.{ExternalAsks}
use Rattle.c2_cmd_outcome.specs.Outcome.{IsOneOutcome, Outcome}
use Rattle.c2_cmd_reading.specs.Outcomes.{IsCompareOutcome, IsDigestOutcome, IsExternalOutcome, IsListOutcome, IsMediaOutcome, IsQuestioned, IsShown, IsValidated}

-- each command comes to one outcome at most for what it is handed
pub record OneReadingOutcome : Type 0 where
  pub digest : (hash : List ℕ → List ℕ) (file : List ℕ) → IsOneOutcome (IsDigestOutcome hash file)
  pub list : (file : List ℕ) → IsOneOutcome (IsListOutcome file)
  pub show : (file : List ℕ) → IsOneOutcome (IsMediaOutcome IsShown file)
  pub questions : (said : Question → Verdict) (file : List ℕ) → IsOneOutcome (IsMediaOutcome (IsQuestioned said) file)
  pub validate : (hash : Alg → List ℕ → List ℕ) (said : Question → Verdict) (file : List ℕ) → IsOneOutcome (IsValidated hash said file)
  pub compare : (hash : Alg → List ℕ → List ℕ) (said : Question → Verdict) (first second : List ℕ) → IsOneOutcome (IsCompareOutcome hash said first second)
  pub external : (hash : Alg → List ℕ → List ℕ) (said : Question → Verdict) (file store : List ℕ) → IsOneOutcome (IsExternalOutcome hash said file store)

-- a list of bytes
abbrev pub AreBytes : List ℕ → Type 0
AreBytes file = All (λ b. b < 2 ^ 8) file

-- each command comes to an outcome where its files are bytes
pub record EachReadingOutcome : Type 0 where
  pub digest : (hash : List ℕ → List ℕ) (file : List ℕ) → AreBytes file → (expected : Outcome) × IsDigestOutcome hash file expected
  pub list : (file : List ℕ) → AreBytes file → (expected : Outcome) × IsListOutcome file expected
  pub show : (file : List ℕ) → AreBytes file → (expected : Outcome) × IsMediaOutcome IsShown file expected
  pub questions : (said : Question → Verdict) (file : List ℕ) → AreBytes file → (expected : Outcome) × IsMediaOutcome (IsQuestioned said) file expected
  pub validate : (hash : Alg → List ℕ → List ℕ) (said : Question → Verdict) (file : List ℕ) → AreBytes file → (expected : Outcome) × IsValidated hash said file expected
  pub compare : (hash : Alg → List ℕ → List ℕ) (said : Question → Verdict) (first second : List ℕ) → AreBytes first → AreBytes second → (expected : Outcome) × IsCompareOutcome hash said first second expected
  pub external : (hash : Alg → List ℕ → List ℕ) (said : Question → Verdict) (file store : List ℕ) → AreBytes file → AreBytes store → (expected : Outcome) × IsExternalOutcome hash said file store expected

-- ---- questions

-- there is one list of questions at most of which this holds
abbrev pub IsOneList : (List Question → Type 0) → Type 0
IsOneList AreAsked = (ps qs : List Question) → AreAsked ps → AreAsked qs → ps ≡ qs

-- each command asks one list of questions at most for what it is handed
pub record OneReadingQuestions : Type 0 where
  pub questions : (file : List ℕ) → IsOneList (AreQuestions file)
  pub validate : (hash : Alg → List ℕ → List ℕ) (said : Question → Verdict) (file : List ℕ) → IsOneList (CheckAsks hash said file)
  pub compare : (hash : Alg → List ℕ → List ℕ) (said : Question → Verdict) (first second : List ℕ) → IsOneList (CompareAsks hash said first second)
  pub external : (hash : Alg → List ℕ → List ℕ) (said : Question → Verdict) (file store : List ℕ) → IsOneList (ExternalAsks hash store file said)

-- each command asks a list of questions where its files are bytes
pub record EachReadingQuestions : Type 0 where
  pub questions : (file : List ℕ) → AreBytes file → (qs : List Question) × AreQuestions file qs
  pub validate : (hash : Alg → List ℕ → List ℕ) (said : Question → Verdict) (file : List ℕ) → AreBytes file → (qs : List Question) × CheckAsks hash said file qs
  pub compare : (hash : Alg → List ℕ → List ℕ) (said : Question → Verdict) (first second : List ℕ) → AreBytes first → AreBytes second → (qs : List Question) × CompareAsks hash said first second qs
  pub external : (hash : Alg → List ℕ → List ℕ) (said : Question → Verdict) (file store : List ℕ) → AreBytes file → AreBytes store → (qs : List Question) × ExternalAsks hash store file said qs
