-- What the check of an opened store promises: its answer, its text, what it asks, how far it came, and whose answer it is.
use Rattle.std.specs.Prelude.{◌≡◌, ℕ, ⊤, List, Option, Some, Ok, length}
use Rattle.std.specs.declared.result.Result.{Result}
use Rattle.c2_base.specs.Causes.{Rose}
use Rattle.c2_base.specs.declared.values.Question.{Question}
use Rattle.c2_spec.specs.C2pa.Manifest.{manifests_of}
use Rattle.c2_spec.specs.Jumbf.Tree.{Tree}
use Rattle.c2_spec.specs.Located.{here}
use Rattle.c2_spec.specs.declared.assertion.FieldError.{FieldError}
use Rattle.c2_spec.specs.declared.digest.Alg.{Alg}
use Rattle.c2_spec.specs.declared.panel.Verdict.{Verdict}
use Rattle.c2_rules.specs.Asking.{Heard, part, broken}
use Rattle.c2_rules.specs.Binding.{Binding, Media}
use Rattle.c2_rules.specs.CheckList.{HasBindingOf, active_in, check_asks, store_answer}
use Rattle.c2_rules.specs.Opened.{IsOpened}
use Rattle.c2_rules.specs.Readings.{Reading, AreReadings}
use Rattle.c2_rules.specs.declared.answer.Answer.{Answer}
use Rattle.c2_rules.specs.declared.answer.Answer.TheVariants as answer
use Rattle.c2_container.specs.Contained.{IsContainerOf}
use Rattle.c2_opening.specs.Media.{IsMediaOf}
use Rattle.c2_opening.specs.declared.error.ValidateError.{ValidateError}
use Rattle.c2_opening.specs.declared.error.ValidateError.TheVariants.{ReadFault, JudgeFault, NoMemory}
use Rattle.c2_hard_binding.specs.Found.{IsTextOf}
use Rattle.c2_validate.specs.declared.checking.Checked.{Checked}
use Rattle.c2_validate.specs.declared.checking.Checked.TheVariants.{Valid, Failing}
use Rattle.c2_validate.specs.declared.checking.OpenedStore.{OpenedStore}

-- ---- the answer

-- what the manifests of an opened store are read as
abbrev pub readings_of : OpenedStore → List Reading
readings_of o = o.chain.now.readings

-- the answer that this stands for
abbrev pub answer_as : Checked → Answer
answer_as (Valid summary text) = answer.Valid summary
answer_as (Failing failing) = answer.Failing failing

-- the text of a valid store is that of the binding of its active manifest, which comes to this in the file
abbrev pub HasText : Option Reading → List ℕ → Option (Result Binding FieldError) → Checked → Type 0
HasText own file b (Failing failing) = ⊤
HasText own file b (Valid summary text) =
    (r : Reading) × (own ≡ Some r) × (x : Binding) × (b ≡ Some (Ok x)) × IsTextOf r file x text

-- the text is of a file of this size
abbrev pub HasTextSize : ℕ → Checked → Type 0
HasTextSize size (Failing failing) = ⊤
HasTextSize size (Valid summary text) = text.cover.size ≡ size

-- This is what the check list answers of an opened store, and the text is its own, where the binding of the active manifest comes to
-- this in the file.
pub record IsCheckedBy (hash : Alg → List ℕ → List ℕ) (said : Question → Verdict) (o : OpenedStore)
    (file : List ℕ) (b : Option (Result Binding FieldError)) (checked : Checked) : Type 0 where
  pub answer : answer_as checked
      ≡ store_answer hash said (length file) o.range.start o.range.length
      (record { readings = readings_of o; binding = b })
  pub text : HasText (active_in (readings_of o)) file b checked

-- This is the answer over an opened store, and its text, in a file with these bytes that has its container: whatever the binding of
-- the active manifest comes to there.
abbrev pub IsCheckedOver : (Alg → List ℕ → List ℕ) → (Question → Verdict) → OpenedStore → List ℕ
    → Checked → Type 0
IsCheckedOver hash said o file checked =
    (m : Media) → IsMediaOf file o.container.now m
    → (b : Option (Result Binding FieldError)) → HasBindingOf m (active_in (readings_of o)) b
    → IsCheckedBy hash said o file b checked

-- ---- a store of a file

-- This store was opened from a file with these bytes: its container and its embedded range are the file's, and its manifests are what
-- those of the file's store come to.
pub record IsOpenedFrom (file : List ℕ) (o : OpenedStore) : Type 0 where
  pub container : IsContainerOf file o.container.now
  pub tree : Tree
  pub opened : IsOpened file (here o.range.start o.range.length tree)
  pub reads : AreReadings (manifests_of tree) (readings_of o)

-- ---- what is asked

-- the check of an opened store asks these questions, where a panel says this
abbrev pub StoreAsks : (Alg → List ℕ → List ℕ) → OpenedStore → (Question → Verdict) → List Question
    → Type 0
StoreAsks hash o said qs = qs ≡ check_asks hash said (readings_of o)

-- how far a call came with its questions that ended with this error
abbrev pub validate_heard : ValidateError → Heard
validate_heard ReadFault = part
validate_heard JudgeFault = broken
validate_heard NoMemory = part

-- ---- what an error comes from

-- the cause of an error of a call that reads a source and may ask judges, by the source's count of faults before and after
abbrev pub IsCheckReadCause : ℕ → ℕ → ValidateError → Type 0
IsCheckReadCause before now ReadFault = Rose before now
IsCheckReadCause before now JudgeFault = ⊤
IsCheckReadCause before now NoMemory = ⊤
