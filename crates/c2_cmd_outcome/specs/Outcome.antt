-- The outcome of a run: its answer, its report, and the file that it writes.
use Rattle.std.specs.Prelude.{◌≡◌, ℕ, List, None, if◌then◌else◌}
use Rattle.std.specs.declared.option.Option.{Option}
use Rattle.c2_spec.specs.Located.{Opening, refused, absent, here}
use Rattle.c2_rules.specs.Codes.{is_unsupported}
use Rattle.c2_rules.specs.declared.answer.Answer.{Answer as Checked}
use Rattle.c2_rules.specs.declared.answer.Answer.TheVariants as checked
use Rattle.c2_rules.specs.declared.code.Code.{Code}
use Rattle.c2_texts.specs.Texts.{refused_line, none_line, valid_line, failing_line}
use Rattle.c2_cmd_outcome.specs.declared.types.Answer.{Answer}
use Rattle.c2_cmd_outcome.specs.declared.types.Answer.TheVariants as answer

-- an answer, its report, and the file, where the command writes one
pub record Outcome : Type 0 where
  pub answer : Answer
  pub report : List ℕ
  pub file : Option (List ℕ)

-- an outcome without a file
abbrev pub reports : Answer → List ℕ → Outcome
reports answer report = record { answer = answer; report = report; file = None }

-- there is one outcome at most of which this holds
abbrev pub IsOneOutcome : (Outcome → Type 0) → Type 0
IsOneOutcome IsExpected = (a b : Outcome) → IsExpected a → IsExpected b → a ≡ b

-- What is reported of a file that is opened as this: its refusal, or that it has no store. `IsReport` says what is reported of one
-- with a store, by the embedded range and what the store is seen as.
abbrev pub Reports : {A : Type 0} → (ℕ → ℕ → A → Outcome → Type 0) → Opening A → Outcome → Type 0
Reports IsReport (refused reason number) expected = expected ≡ reports answer.Refused (refused_line reason number)
Reports IsReport absent expected = expected ≡ reports answer.NoStore none_line
Reports IsReport (here start len a) expected = IsReport start len a expected

-- where a rule with this code fails: what isn't supported counts as refused
abbrev pub failing_answer : Code → Answer
failing_answer code = if is_unsupported code then answer.Refused else answer.Failing

-- what is reported of the answer of the check
abbrev pub answered : Checked → Outcome
answered (checked.Valid summary) = reports answer.Done (valid_line summary)
answered (checked.Failing failing) = reports (failing_answer failing.code) (failing_line failing)
answered (checked.Refused reason number) = reports answer.Refused (refused_line reason number)
answered checked.NoStore = reports answer.NoStore none_line
