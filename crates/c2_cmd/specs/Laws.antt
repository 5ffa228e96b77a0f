-- The laws of runs: each comes to one outcome and asks one list of questions, and answers where nothing fails.
use Rattle.std.specs.Prelude.{◌≡◌, ◌⊎◌, List, Option}
use Rattle.c2_base.specs.declared.values.Question.{Question}
use Rattle.c2_cmd.specs.Outcome.{AreBytes, Asks, HasDigests, Inputs, IsOutcome}
use Rattle.c2_cmd.specs.Run.{Faults, HasAnswered, IsCaused, NoneFailed, RunState}
use Rattle.c2_cmd_outcome.specs.Outcome.{Outcome}
use Rattle.c2_cmd_outcome.specs.Status.{IfAnswered}
use Rattle.c2_cmd_outcome.specs.declared.types.Status.{Status}
use Rattle.c2_cmd_outcome.specs.declared.types.Status.TheVariants.{NoMemory}
use Rattle.c2_usage.specs.declared.types.Roles.{Roles}

-- words and inputs come to one outcome at most
abbrev pub OneOutcome : Type 0
OneOutcome = (roles : Option Roles) (i : Inputs) (a b : Outcome) → IsOutcome roles i a → IsOutcome roles i b → a ≡ b

-- and ask one list of questions at most
abbrev pub OneListOfQuestions : Type 0
OneListOfQuestions = (roles : Option Roles) (i : Inputs) (ps qs : List Question) → Asks roles i ps → Asks roles i qs → ps ≡ qs

-- words and inputs whose files are bytes come to an outcome
abbrev pub SomeOutcome : Type 0
SomeOutcome = (roles : Option Roles) (i : Inputs) → AreBytes i → HasDigests roles i → (expected : Outcome) × IsOutcome roles i expected

-- and ask a list of questions
abbrev pub SomeListOfQuestions : Type 0
SomeListOfQuestions = (roles : Option Roles) (i : Inputs) → AreBytes i → HasDigests roles i → (qs : List Question) × Asks roles i qs

-- a run of which no object that its command names fails has answered, or memory ran out
abbrev pub AnswersWhereNothingFails : Type 0
AnswersWhereNothingFails = (roles : Option Roles) (faults : Faults) (expected : Outcome) (old new : RunState) (status : Status)
    → IsCaused roles faults status → NoneFailed roles faults → IfAnswered (HasAnswered expected old new status) status
    → (status ≡ NoMemory) ⊎ HasAnswered expected old new status
