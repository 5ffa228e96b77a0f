-- What `compare` promises: what two files come to, and what is asked.
use Rattle.std.specs.Prelude.{◌≡◌, ℕ, ⊤, List, Ok, Err, Some}
use Rattle.std.specs.declared.option.Option.{Option}
use Rattle.std.specs.declared.result.Result.{Result}
use Rattle.c2_base.specs.Sink.{Appends, HasWrittenPrefix}
use Rattle.c2_base.specs.Source.{IsKnownWhereDue}
use Rattle.c2_base.specs.declared.values.Question.{Question}
use Rattle.c2_spec.specs.declared.digest.Alg.{Alg}
use Rattle.c2_spec.specs.declared.panel.Verdict.{Verdict}
use Rattle.c2_rules.specs.Asking.{Heard, all, part, broken}
use Rattle.c2_rules.specs.declared.answer.Answer.{Answer}
use Rattle.c2_compare_spec.specs.Comparison.{CompareAsks, IsComparison, IsRefusedFirst}
use Rattle.c2_compare_spec.specs.declared.compared.Compared.{Compared}
use Rattle.c2_compare_evidence.specs.declared.error.CompareError.{CompareError}
use Rattle.c2_compare_evidence.specs.declared.error.CompareError.TheVariants.{ReadFault, WriteFault, JudgeFault, NoMemory}

-- ---- what two files come to

-- What a comparison gives by its answer: the outcome of the two files was answered and its text written; or a prefix of the text was
-- written.
abbrev pub Gives : Compared → List ℕ → Option (List ℕ) → Option (List ℕ)
    → Result Compared CompareError → Type 0
Gives what text old new (Ok got) = (got ≡ what) × Appends old new text
Gives what text old new (Err e) = HasWrittenPrefix old new text

-- this holds of an answer
abbrev pub Answers : (Compared → Type 0) → Result Compared CompareError → Type 0
Answers P (Ok what) = P what
Answers P (Err e) = ⊤

-- what two files come to, whatever it is, is given; and what is answered is what they come to
pub record IsCompared (hash : Alg → List ℕ → List ℕ) (said : Question → Verdict)
    (first second : List ℕ) (old new : Option (List ℕ)) (result : Result Compared CompareError) : Type
    0 where
  pub gives : (what : Compared) (text : List ℕ) → IsComparison hash said first second what text
      → Gives what text old new result
  pub is : Answers (λ what. (text : List ℕ) × IsComparison hash said first second what text) result

-- the check of a file answers something by which it isn't accepted
abbrev pub IsNotAccepted : (Alg → List ℕ → List ℕ) → (Question → Verdict) → List ℕ → Type 0
IsNotAccepted hash said file = (a : Answer) × IsRefusedFirst hash said file a

-- ---- what is asked

-- How far a comparison came with its questions that ended with this error: the report is written after the last question.
abbrev pub compare_heard : CompareError → Heard
compare_heard ReadFault = part
compare_heard WriteFault = all
compare_heard JudgeFault = broken
compare_heard NoMemory = part

-- Where a panel says this, the comparison of two files asks these questions: those of the bytes that are known of the first source, and of
-- the second's where it is due.
pub record AsksCompared (hash : Alg → List ℕ → List ℕ) (first second : Option (List ℕ))
    (said : Question → Verdict) (qs : List Question) : Type 0 where
  pub file : List ℕ
  pub is_file : first ≡ Some file
  pub other : List ℕ
  pub is_other : IsKnownWhereDue second (IsNotAccepted hash said file) other
  pub asks : CompareAsks hash said file other qs
