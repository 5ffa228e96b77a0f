-- Statuses: their numbers, that of an answer, and what holds after an answer or after a fault.
use Rattle.std.specs.Prelude.{ℕ, ⊤}
use Rattle.c2_cmd_outcome.specs.declared.types.Answer.{Answer}
use Rattle.c2_cmd_outcome.specs.declared.types.Answer.TheVariants as answer
use Rattle.c2_cmd_outcome.specs.declared.types.Status.{Status}
use Rattle.c2_cmd_outcome.specs.declared.types.Status.TheVariants.{Done, Failing, Refused, NoStore, Usage, InputFault, OutputFault, JudgeFault, NoMemory, DifferentClaims, Evidence, BuildRefused, NotAccepted, StripRefused}

-- the exit status of the program
abbrev pub exit_status : Status → ℕ
exit_status Done = 0
exit_status Failing = 1
exit_status Refused = 2
exit_status NoStore = 3
exit_status Usage = 4
exit_status InputFault = 5
exit_status OutputFault = 6
exit_status JudgeFault = 7
exit_status NoMemory = 8
exit_status DifferentClaims = 9
exit_status Evidence = 10
exit_status BuildRefused = 11
exit_status NotAccepted = 12
exit_status StripRefused = 13

-- the status of an answer
abbrev pub status_of : Answer → Status
status_of answer.Done = Done
status_of answer.Failing = Failing
status_of answer.Refused = Refused
status_of answer.NoStore = NoStore
status_of answer.Usage = Usage
status_of answer.DifferentClaims = DifferentClaims
status_of answer.Evidence = Evidence
status_of answer.BuildRefused = BuildRefused
status_of answer.NotAccepted = NotAccepted
status_of answer.StripRefused = StripRefused

-- this holds after every answer but a fault and out of memory
abbrev pub IfAnswered : Type 0 → Status → Type 0
IfAnswered claim InputFault = ⊤
IfAnswered claim OutputFault = ⊤
IfAnswered claim JudgeFault = ⊤
IfAnswered claim NoMemory = ⊤
IfAnswered claim status = claim

-- this holds after a fault and out of memory
abbrev pub WithFault : Type 0 → Status → Type 0
WithFault claim InputFault = claim
WithFault claim OutputFault = claim
WithFault claim JudgeFault = claim
WithFault claim NoMemory = claim
WithFault claim status = ⊤

-- the run ended before its report was whole: a source or a judge failed, or memory ran out
abbrev pub HasNoReply : Status → Type 0
HasNoReply InputFault = ⊤
HasNoReply JudgeFault = ⊤
HasNoReply NoMemory = ⊤
HasNoReply status = ⊥
