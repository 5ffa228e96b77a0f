-- What a command replies, before its report is written.
use Rattle.std.specs.Prelude.{◌≡◌, ◌⊎◌, ℕ, ◌<◌, Bool, true, List, [], ◌++◌, string_bytes, IfOk, Result, Ok, Err, Some, None, ⊤}
use Rattle.std.specs.declared.option.Option.{Option}
use Rattle.std.specs.Option.{ForSome}
use Rattle.c2_base.specs.Causes.{Rose}
use Rattle.c2_base.specs.Sink.{Appends, HasWrittenPrefix}
use Rattle.c2_rules.specs.Asking.{Heard, all, part, broken}
use Rattle.c2_opening.specs.declared.error.ValidateError.{ValidateError}
use Rattle.c2_opening.specs.declared.error.ValidateError.TheVariants as error
use Rattle.c2_cmd_outcome.specs.Left.{Delivers, Finishes, Leaves, SinkState}
use Rattle.c2_cmd_outcome.specs.Outcome.{Outcome, reports}
use Rattle.c2_cmd_outcome.specs.Status.{status_of}
use Rattle.c2_cmd_outcome.specs.declared.types.Answer.TheVariants as answer
use Rattle.c2_cmd_outcome.specs.declared.types.Status.{Status}
use Rattle.c2_cmd_outcome.specs.declared.types.Status.TheVariants as status
use Rattle.c2_cmd_outcome.specs.declared.reply.Reply.{Reply}
use Rattle.c2_cmd_outcome.specs.declared.reply.Fault.{Fault}
use Rattle.c2_cmd_outcome.specs.declared.reply.Fault.TheVariants.{Input, Output, Judge, Memory}

-- the outcome that a reply stands for
abbrev pub outcome_of : Reply → Outcome
outcome_of reply = reports reply.answer (string_bytes reply.text)

-- a reply has an outcome's answer, and what its report has behind a text that was written before
pub record StandsFor (expected : Outcome) (before : List ℕ) (reply : Reply) : Type 0 where
  pub answer : expected.answer ≡ reply.answer
  pub report : expected.report ≡ before ++ string_bytes reply.text

-- a text was written, and behind it the reply stands for each outcome of which this holds
pub record Completes (IsExpected : Outcome → Type 0) (old new : Option (List ℕ)) (reply : Reply) : Type 0 where
  pub before : List ℕ
  pub written : Appends old new before
  pub stands : (expected : Outcome) → IsExpected expected → StandsFor expected before reply

-- by the result of a call: a reply that completes the report; or a prefix of the report was written
abbrev pub Begins : (Outcome → Type 0) → Option (List ℕ) → Option (List ℕ) → Result Reply Fault → Type 0
Begins IsExpected old new (Ok reply) = Completes IsExpected old new reply
Begins IsExpected old new (Err e) = (expected : Outcome) → IsExpected expected → HasWrittenPrefix old new expected.report

-- where the bytes of the media are known, the reply stands for this outcome of theirs
abbrev pub Replies : (List ℕ → Outcome → Type 0) → Option (List ℕ) → Reply → Type 0
Replies IsExpected known reply = ForSome known (λ file. IsExpected file (outcome_of reply))

-- What became of the new file by the result of a call, where the outcome has this file or none: all of it was written and it is
-- finished; after a fault of a source or of a sink a prefix was; out of memory nothing, or all of it. Where there is none, nothing
-- was done.
abbrev pub TakesFile : Option (List ℕ) → SinkState → SinkState → Result Reply Fault → Type 0
TakesFile None old new result = new ≡ old
TakesFile (Some file) old new (Ok reply) = Delivers file old new
TakesFile (Some file) old new (Err Input) = Leaves file old new
TakesFile (Some file) old new (Err Output) = Leaves file old new
TakesFile (Some file) old new (Err Judge) = new ≡ old
TakesFile (Some file) old new (Err Memory) = (new ≡ old) ⊎ Delivers file old new

-- the new file is whole, by its sink and the result of a call: the reply says that it is done, or the call has finished the file
abbrev pub HasWhole : SinkState → SinkState → Result Reply Fault → Type 0
HasWhole old new (Ok reply) = (reply.answer ≡ answer.Done) ⊎ Finishes old new
HasWhole old new (Err e) = Finishes old new

-- ---- faults

-- the fault that an error stands for
abbrev pub fault_of : ValidateError → Fault
fault_of error.ReadFault = Input
fault_of error.JudgeFault = Judge
fault_of error.NoMemory = Memory

-- The cause of a fault of a call: what came about where a source failed, where a sink did, and where a judge did. Memory may run out
-- anywhere.
abbrev pub CausedBy : (source sink judge : Type 0) → Fault → Type 0
CausedBy source sink judge Input = source
CausedBy source sink judge Output = sink
CausedBy source sink judge Judge = judge
CausedBy source sink judge Memory = ⊤

-- the cause of a fault of a call that reads one source and uses no other object, by that source's counts of faults before and after
abbrev pub IsMediaCause : ℕ → ℕ → Fault → Type 0
IsMediaCause before now = CausedBy (Rose before now) ⊥ ⊥

-- The cause of a fault of a call that reads one source and asks judges, by that source's counts of faults before and after. A judge
-- may fail too: its cause stands with what is said of the judges.
abbrev pub IsPanelCause : ℕ → ℕ → Fault → Type 0
IsPanelCause before now = CausedBy (Rose before now) ⊥ ⊤

-- The cause of a fault of a call that reads one source and writes to a sink, by that source's counts of faults before and after. The sink
-- may fail too: its cause stands with what is said of the sink.
abbrev pub IsCopyingCause : ℕ → ℕ → Fault → Type 0
IsCopyingCause before now = CausedBy (Rose before now) ⊤ ⊥

-- The cause of a fault of a call that reads several sources and uses no other object, by the counts of one source, and by whether another
-- failed.
abbrev pub IsSourcesCause : (OtherFailed : Type 0) → ℕ → ℕ → Fault → Type 0
IsSourcesCause OtherFailed before now = CausedBy (Rose before now ⊎ OtherFailed) ⊥ ⊥

-- The cause of a fault of a call that reads several sources and writes to a sink, by the counts of one source, and by whether another
-- failed. The sink may fail too: its cause stands with what is said of the sink.
abbrev pub IsWritingCause : (OtherFailed : Type 0) → ℕ → ℕ → Fault → Type 0
IsWritingCause OtherFailed before now = CausedBy (Rose before now ⊎ OtherFailed) ⊤ ⊥

-- The cause of a fault of a call that reads several sources and asks judges, by the counts of one source, and by whether another failed. A
-- judge may fail too: its cause stands with what is said of the judges.
abbrev pub IsReadingCause : (OtherFailed : Type 0) → ℕ → ℕ → Fault → Type 0
IsReadingCause OtherFailed before now = CausedBy (Rose before now ⊎ OtherFailed) ⊥ ⊤

-- The cause of a fault of a call that reads several sources, asks judges and writes to a sink, by the counts of one source, and by whether
-- another failed. The sink and a judge may fail too: their causes stand with what is said of them.
abbrev pub IsInputCause : (OtherFailed : Type 0) → ℕ → ℕ → Fault → Type 0
IsInputCause OtherFailed before now = CausedBy (Rose before now ⊎ OtherFailed) ⊤ ⊤

-- The cause of a fault of a call that writes to a sink, by that sink's counts of faults before and after. A source and a judge may fail
-- too: their causes stand with what is said of them.
abbrev pub IsOutputCause : ℕ → ℕ → Fault → Type 0
IsOutputCause before now = CausedBy ⊤ (Rose before now) ⊤

-- how far a call came with its questions when it ended with this fault
abbrev pub fault_heard : Fault → Heard
fault_heard Input = part
fault_heard Output = all
fault_heard Judge = broken
fault_heard Memory = part

-- ---- a call

-- the status that the result of a call leads to, unless the report fails behind it
abbrev pub end_of : Result Reply Fault → Status
end_of (Ok reply) = status_of reply.answer
end_of (Err Input) = status.InputFault
end_of (Err Output) = status.OutputFault
end_of (Err Judge) = status.JudgeFault
end_of (Err Memory) = status.NoMemory

-- ---- what a call came to

-- The reply to what the call below a command came to, which the command says as an outcome or as a fault: it reports the outcome, and to a
-- fault there is none.
abbrev pub IsReplyTo : Result Outcome Fault → Reply → Type 0
IsReplyTo (Ok o) reply = outcome_of reply ≡ o
IsReplyTo (Err f) reply = ⊥

-- why there is no reply to what the call came to: its fault, or memory ran out under the reply to an outcome
abbrev pub IsFaultOf : Result Outcome Fault → Fault → Type 0
IsFaultOf (Ok o) e = e ≡ Memory
IsFaultOf (Err f) e = e ≡ f

-- ---- a call that writes a new file

-- What a call replies and writes of which each outcome has a file or none: the reply stands for the outcome, and its sink takes the file.
pub record MakesFile (IsExpected : Outcome → Type 0) (old new : SinkState) (result : Result Reply Fault) : Type 0 where
  pub stands : (expected : Outcome) → IsExpected expected → IfOk result (StandsFor expected [])
  pub takes : (expected : Outcome) → IsExpected expected → TakesFile expected.file old new result

-- Whether the new file is finished, by the result: a call that is done has finished it, and every other answer leaves it untouched; after
-- a failure of a source or of a sink it isn't finished by this call; a judge that fails leaves it untouched; and out of memory it is
-- untouched, or finished.
abbrev pub FileEnd : (Untouched : Type 0) (before now : Bool) → Result Reply Fault → Type 0
FileEnd Untouched before now (Ok reply) = (reply.answer ≡ answer.Done → now ≡ true) × ((reply.answer ≡ answer.Done) ⊎ Untouched)
FileEnd Untouched before now (Err Input) = now ≡ before
FileEnd Untouched before now (Err Output) = now ≡ before
FileEnd Untouched before now (Err Judge) = Untouched
FileEnd Untouched before now (Err Memory) = Untouched ⊎ (now ≡ true)

-- What a call leaves of the sink for a new file, whatever the sources hold: whether it is finished, by the result; and a count of faults
-- that rose leaves it unfinished.
pub record EndsFile {K : Type 0} (finished : K → Bool) (faults : K → ℕ) (old new : K) (result : Result Reply Fault) : Type 0 where
  pub ends : FileEnd (new ≡ old) (finished old) (finished new) result
  pub unfinished : faults old < faults new → finished new ≡ finished old
