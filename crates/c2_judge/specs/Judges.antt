-- What the judges of this crate hold, and what an ask changes.
use Rattle.std.specs.Prelude.{◌≡◌, ℕ, ◌+◌, Bool, ◌∷◌, drop, Result, is_err, IfOk, OnOk, OnErr, List}
use Rattle.c2_base.specs.Causes.{one_more, one_more_if, HasCause}
use Rattle.c2_base.specs.InMemory.{is_due}
use Rattle.c2_base.specs.declared.values.Question.{Question}
use Rattle.c2_spec.specs.declared.panel.Verdict.{Verdict}
use Rattle.c2_spec.specs.Judges.Panel.{Judges, judges_of, verdicts, Counted, Failing, MovedAt}
use Rattle.c2_spec.specs.Judges.Question.{question_digest}
use Rattle.c2_judge.specs.Reading.{said_at}
use Rattle.c2_judge.specs.declared.fixed.FixedJudge.{FixedJudge}
use Rattle.c2_judge.specs.declared.fixed.BrokenJudge.{BrokenJudge}
use Rattle.c2_judge.specs.declared.listed.ListJudge.{ListJudge}

-- a judge for tests: what it says, the number of its ask that fails, and its counts of asks and of faults
pub record JudgeState : Type 0 where
  pub verdict : Verdict
  pub fail_at : ℕ
  pub asked : ℕ
  pub faults : ℕ

-- what a judge for tests holds
abbrev pub judge_state : FixedJudge → JudgeState
judge_state j = record { verdict = j.verdict; fail_at = j.fail_at; asked = j.asked; faults = j.faults }

-- a judge for tests that was never asked
abbrev pub fresh_judge : Verdict → ℕ → JudgeState
fresh_judge verdict fail_at = record { verdict = verdict; fail_at = fail_at; asked = 0; faults = 0 }

-- a judge for tests after one more ask, which failed or not
abbrev pub after_ask : JudgeState → Bool → JudgeState
after_ask s failed = record s { asked = one_more s.asked; faults = one_more_if failed s.faults }

-- a judge for tests was asked once more: the ask fails exactly where its number is due, and then counts a fault
pub record IsAsked {E : Type 0} (old new : JudgeState) (result : Result Verdict E) : Type 0 where
  pub answer : IfOk result (λ verdict. verdict ≡ old.verdict)
  pub fails : is_err result ≡ is_due old.asked old.fail_at
  pub state : new ≡ after_ask old (is_err result)
  pub counted : Counted old.asked new.asked
  pub cause : HasCause old.faults new.faults result

-- how often a broken judge was asked
abbrev pub broken_asked : BrokenJudge → ℕ
broken_asked j = j.asked

-- what a judge by a verdict file says of a question
abbrev pub list_says : ListJudge → Question → Verdict
list_says j q = said_at j.verdicts (question_digest q)

-- how often a judge by a verdict file was asked
abbrev pub list_asked : ListJudge → ℕ
list_asked j = j.asked

-- what asking the judge at place `i` does to a list of judges
pub record AsksAt {E : Type 0} (i : ℕ) (q : Question) (old new : Judges) (result : Result Verdict E) : Type 0 where
  pub same : new.said ≡ old.said
  pub answer : IfOk result (λ verdict. drop i (verdicts old.said q) ≡ verdict ∷ drop (i + 1) (verdicts old.said q))
  pub counted : MovedAt Counted i old.asked new.asked
  pub ok : OnOk result (new.faults ≡ old.faults)
  pub cause : OnErr result (MovedAt Failing i old.faults new.faults)

-- For a private clause: what asking the judge at place `i` does to a list of judges, by the meanings of the trait.
abbrev pub AsksPanelAt : {J E : Type 0} (says : J → Question → Verdict) (times faults : J → ℕ) (i : ℕ) (q : Question) (old new : List J)
    → Result Verdict E → Type 0
AsksPanelAt says times faults i q old new result =
    AsksAt i q (judges_of says times faults old) (judges_of says times faults new) result
