-- What `run` promises. Whatever its objects hold, by its words and its status: whose fault it answers, what it leaves untouched, and what
-- is left of each object (module `Left`). Where the sources that it comes to read tell their bytes: that it ends as its outcome says.
use Rattle.std.specs.Prelude.{◌≡◌, ◌⊎◌, ⊤, ℕ, Bool, true, false, List, [], IsSome, Some, None, map, string_bytes, String}
use Rattle.std.specs.declared.option.Option.{Option}
use Rattle.std.specs.declared.result.Result.{Result}
use Rattle.c2_base.specs.Causes.{Rose}
use Rattle.c2_base.specs.declared.values.Question.{Question}
use Rattle.c2_spec.specs.declared.digest.Alg.{Alg}
use Rattle.c2_spec.specs.declared.panel.Verdict.{Verdict}
use Rattle.c2_spec.specs.Judges.Panel.{SomeRose, Judges, judges_of, panel_says}
use Rattle.c2_rules.specs.Asking.{HaveAsked, HaveAskedPrefix, HaveFailed, HasHeard}
use Rattle.c2_cmd_collect.specs.Answers as collect
use Rattle.c2_compare.specs.Comparing.{IsNotAccepted}
use Rattle.c2_sidecar.specs.Checking.{IsRefusedFile}
use Rattle.c2_build_refusals.specs.Stages.{IsDefinitionRefused, IsMediaRefused, IsToldRefused}
use Rattle.c2_usage.specs.CommandLine.{is_out, lets_ask, roles_of}
use Rattle.c2_cmd_outcome.specs.Left.{Delivers, Finishes, Leaves, SinkState}
use Rattle.c2_cmd_outcome.specs.Outcome.{Outcome}
use Rattle.c2_cmd_outcome.specs.Reply.{Begins, HasWhole, TakesFile, fault_heard}
use Rattle.c2_cmd_outcome.specs.Status.{IfAnswered, status_of}
use Rattle.c2_cmd_outcome.specs.declared.reply.Fault.{Fault}
use Rattle.c2_cmd_outcome.specs.declared.reply.Reply.{Reply}
use Rattle.c2_cmd_outcome.specs.declared.types.Status.{Status}
use Rattle.c2_cmd_outcome.specs.declared.types.Status.TheVariants.{Done, Usage, InputFault, OutputFault, JudgeFault, NoMemory}
use Rattle.c2_cmd.specs.Outcome.{Asks, Inputs, inputs, IsOutcome, Meets, names}
use Rattle.c2_cmd.specs.Sources.{Each, SourceName, is_source, of_source, the_fourth, the_media, the_second, the_third}
use Rattle.c2_usage.specs.declared.types.Command.{Command}
use Rattle.c2_usage.specs.declared.types.Command.TheVariants as command
use Rattle.c2_usage.specs.declared.types.Roles.{Roles}

-- ---- calls

-- the roles of the words of a call
abbrev pub roles_in : {R : Type 0} → List (String R) → Option Roles
roles_in words = roles_of (map string_bytes words)

-- what a call was handed: the roles of its words, the bytes of its sources where they are known, what its judges say, and
-- the hash
pub record Call : Type 0 where
  pub roles : Option Roles
  pub known : Each (Option (List ℕ))
  pub said : List (Question → Verdict)
  pub hash : Alg → List ℕ → List ℕ

-- the call with these words, sources, judges and this hash
abbrev pub call_of : {R : Type 0} → List (String R) → Each (Option (List ℕ)) → List (Question → Verdict) → (Alg → List ℕ → List ℕ) → Call
call_of words known said hash = record { roles = roles_in words; known = known; said = said; hash = hash }

-- what the outcome of a call depends on beside its roles
abbrev pub handed : Call → Inputs
handed c = inputs c.known (panel_says c.said) c.hash

-- the call comes to this outcome
abbrev pub ComesTo : Call → Outcome → Type 0
ComesTo c expected = IsOutcome c.roles (handed c) expected

-- the call puts these questions to its judges, in this order
abbrev pub CallAsks : Call → List Question → Type 0
CallAsks c qs = Asks c.roles (handed c) qs

-- the new file of the call meets what is promised of it
abbrev pub HasMet : Call → Type 0
HasMet c = Meets c.roles (handed c)

-- ---- the sources that are read

-- the bytes of a file are known, and this holds of them
pub record IsKnownAs (Holds : List ℕ → Type 0) (known : Option (List ℕ)) : Type 0 where
  pub file : List ℕ
  pub is_known : known ≡ Some file
  pub holds : Holds file

-- this holds of the command of words with these roles; words without roles have none
abbrev pub IsOfCommand : (Command → Type 0) → Option Roles → Type 0
IsOfCommand Holds None = ⊥
IsOfCommand Holds (Some roles) = Holds roles.command

-- What is known of a call of a command tells that a source isn't due. The media always is; `compare` reads its second file only where the
-- media is accepted, a command that builds only where it isn't refused, and `validate-external` only where its container isn't; a command that
-- embeds reads its third file only where neither the media nor the definition is refused; and one that collects reads its fourth file only where
-- none of these and no message is refused, and no rule fails of the media's store.
abbrev pub HasNotDue : Call → SourceName → Command → Type 0
HasNotDue c the_media k = ⊥
HasNotDue c the_second command.Compare = IsKnownAs (IsNotAccepted c.hash (panel_says c.said)) c.known.media
HasNotDue c the_second command.Plan = IsKnownAs IsMediaRefused c.known.media
HasNotDue c the_second command.Embed = IsKnownAs IsMediaRefused c.known.media
HasNotDue c the_second command.ValidateExternal = IsKnownAs IsRefusedFile c.known.media
HasNotDue c the_second command.PlanFront = IsKnownAs IsMediaRefused c.known.media
HasNotDue c the_second command.EmbedFront = IsKnownAs IsMediaRefused c.known.media
HasNotDue c the_second command.PlanCollect = IsKnownAs IsMediaRefused c.known.media
HasNotDue c the_second command.EmbedCollect = IsKnownAs IsMediaRefused c.known.media
HasNotDue c the_third command.Embed = IsKnownAs IsMediaRefused c.known.media ⊎ IsKnownAs IsDefinitionRefused c.known.second
HasNotDue c the_third command.EmbedFront = IsKnownAs IsMediaRefused c.known.media ⊎ IsKnownAs IsDefinitionRefused c.known.second
HasNotDue c the_third command.EmbedCollect = IsKnownAs IsMediaRefused c.known.media ⊎ IsKnownAs IsDefinitionRefused c.known.second
HasNotDue c the_fourth command.PlanCollect = IsKnownAs (collect.IsNotAccepted c.hash (panel_says c.said)) c.known.media ⊎ IsKnownAs IsDefinitionRefused c.known.second
HasNotDue c the_fourth command.EmbedCollect =
    IsKnownAs (collect.IsNotAccepted c.hash (panel_says c.said)) c.known.media
    ⊎ (IsKnownAs IsDefinitionRefused c.known.second ⊎ IsToldRefused c.known.second c.known.third)
HasNotDue c s k = ⊥

-- a source of a call isn't due
abbrev pub IsNotDue : Call → SourceName → Type 0
IsNotDue c s = IsOfCommand (HasNotDue c s) c.roles

-- The sources that the call comes to read tell their bytes: each that its words name, unless those before it tell that it isn't due.
pub record IsKnown (c : Call) : Type 0 where
  pub told : (s : SourceName) → names (is_source s) c.roles ≡ true → IsSome (of_source c.known s) ⊎ IsNotDue c s

-- ---- what is left untouched

-- which objects are as they were: each source, the sink for the new file, and the judges
pub record Untouched : Type 1 where
  pub sources : Each (Type 0)
  pub out : Type 0
  pub judges : Type 0

-- a source that no word names, or that isn't due
abbrev pub IsUnused : Call → SourceName → Type 0
IsUnused c s = (names (is_source s) c.roles ≡ false) ⊎ IsNotDue c s

-- What the call doesn't use is as it was: each such source; the new file, where no word names one; and the judges, where no word lets the
-- command ask them.
pub record LeavesUnused (c : Call) (untouched : Untouched) : Type 0 where
  pub sources : (s : SourceName) → IsUnused c s → of_source untouched.sources s
  pub out : names is_out c.roles ≡ false → untouched.out
  pub judges : names lets_ask c.roles ≡ false → untouched.judges

-- ---- whose fault it is

-- the counts of faults of a run's objects, each before and after the run
pub record Faults : Type 0 where
  pub sources : Each (ℕ × ℕ)
  pub out : ℕ × ℕ
  pub report : ℕ × ℕ
  pub judges : List ℕ × List ℕ

-- an object that the command names failed in this call, by its counts before and after
abbrev pub HasFailed : Bool → ℕ × ℕ → Type 0
HasFailed named counts = (named ≡ true) × Rose counts.0 counts.1

-- a source that the command names failed in this call
abbrev pub SourceFailed : Option Roles → Faults → Type 0
SourceFailed roles faults = (s : SourceName) × HasFailed (names (is_source s) roles) (of_source faults.sources s)

-- the report failed in this call, or the new file of a command that writes one
abbrev pub SinkFailed : Option Roles → Faults → Type 0
SinkFailed roles faults = HasFailed true faults.report ⊎ HasFailed (names is_out roles) faults.out

-- a judge whom the command may ask failed in this call
abbrev pub JudgeFailed : Option Roles → Faults → Type 0
JudgeFailed roles faults = (names lets_ask roles ≡ true) × SomeRose faults.judges.0 faults.judges.1

-- Why a run ends with its status, by the roles of its words: `Usage` comes only where the words fit no command, and each fault only where
-- such an object failed in this call.
pub record IsCaused (roles : Option Roles) (faults : Faults) (status : Status) : Type 0 where
  pub usage : status ≡ Usage → roles ≡ None
  pub input : status ≡ InputFault → SourceFailed roles faults
  pub output : status ≡ OutputFault → SinkFailed roles faults
  pub judge_fault : status ≡ JudgeFault → JudgeFailed roles faults

-- no object that the command names failed in this call
pub record NoneFailed (roles : Option Roles) (faults : Faults) : Type 0 where
  pub sources : SourceFailed roles faults → ⊥
  pub sinks : SinkFailed roles faults → ⊥
  pub judges : JudgeFailed roles faults → ⊥

-- ---- a run whose sources are known

-- a run's sinks and judges
pub record RunState : Type 0 where
  pub report : SinkState
  pub file : SinkState
  pub judges : Judges

-- a run's sinks and judges, before it and after it
pub record RunStates : Type 0 where
  pub report : SinkState × SinkState
  pub file : SinkState × SinkState
  pub judges : Judges × Judges

-- the judges before a call and after it, by the meanings of the trait
abbrev pub panel_states : {J : Type 0} → (J → Question → Verdict) → (J → ℕ) → (J → ℕ) → List J → List J → Judges × Judges
panel_states says times faults old new = (judges_of says times faults old, judges_of says times faults new)

-- before the run
abbrev pub before : RunStates → RunState
before s = record { report = s.report.0; file = s.file.0; judges = s.judges.0 }

-- after it
abbrev pub after : RunStates → RunState
after s = record { report = s.report.1; file = s.file.1; judges = s.judges.1 }

-- The report after a run with this outcome and this status: the status is that of the outcome's answer, and the report took all of
-- its text and is finished; or after a fault or out of memory it took a prefix of that text, and this call hasn't finished it.
abbrev pub HasReport : Outcome → SinkState → SinkState → Status → Type 0
HasReport expected old new InputFault = Leaves expected.report old new
HasReport expected old new OutputFault = Leaves expected.report old new
HasReport expected old new JudgeFault = Leaves expected.report old new
HasReport expected old new NoMemory = Leaves expected.report old new
HasReport expected old new status = (status ≡ status_of expected.answer) × Delivers expected.report old new

-- The new file after a run with this outcome and this status. Where the outcome has a file: all of it, and it is finished; after a fault
-- of a source a prefix of it; after one of a sink a prefix of it or all of it (then it was the report that failed: the field
-- `unfinished` of the clause `out` says of a new file that failed that the call hasn't finished it); after one of a judge nothing; out of memory nothing
-- or all of it. Where the outcome has none: nothing was done.
abbrev pub HasFile : Option (List ℕ) → SinkState → SinkState → Status → Type 0
HasFile None old new status = new ≡ old
HasFile (Some file) old new InputFault = Leaves file old new
HasFile (Some file) old new OutputFault = Leaves file old new ⊎ Delivers file old new
HasFile (Some file) old new JudgeFault = new ≡ old
HasFile (Some file) old new NoMemory = (new ≡ old) ⊎ Delivers file old new
HasFile (Some file) old new status = Delivers file old new

-- the new file is whole, by its sink and the status: the run is done, or it has finished the file, whatever failed behind that
abbrev pub HasWholeFile : SinkState → SinkState → Status → Type 0
HasWholeFile old new status = (status ≡ Done) ⊎ Finishes old new

-- nothing was written to the report before the file was whole and finished
abbrev pub IsFileFirst : Option (List ℕ) → SinkState → SinkState → SinkState → SinkState → Type 0
IsFileFirst None report_old report_new old new = ⊤
IsFileFirst (Some file) report_old report_new old new = (report_new ≡ report_old) ⊎ Delivers file old new

-- Which judges were asked how often, and who failed, by the status: each of these questions was put to the panel, also where a sink
-- failed; after a fault of a source and out of memory those of a prefix; after one of a judge those before the one at which it failed.
abbrev pub AskedPanel : List Question → Judges → Judges → Status → Type 0
AskedPanel qs old new InputFault = HaveAskedPrefix old.said qs old.asked new.asked
AskedPanel qs old new NoMemory = HaveAskedPrefix old.said qs old.asked new.asked
AskedPanel qs old new JudgeFault = HaveFailed old.said qs old.asked new.asked old.faults new.faults
AskedPanel qs old new status = HaveAsked old.said qs old.asked new.asked

-- a sink for a new file took all of it and is finished; where there is none, nothing was done
abbrev pub HasAll : Option (List ℕ) → SinkState → SinkState → Type 0
HasAll None old new = new ≡ old
HasAll (Some file) old new = Delivers file old new

-- a run has answered: its status is the outcome's, its report took all of the outcome's text, and so did the sink for the new file
pub record HasAnswered (expected : Outcome) (old new : RunState) (status : Status) : Type 0 where
  pub status_is : status ≡ status_of expected.answer
  pub report : Delivers expected.report old.report new.report
  pub file : HasAll expected.file old.file new.file

-- A run of a call with this outcome. `report` and `file` say what its sinks have taken after each status, `order` that the file comes
-- first, `met` what a whole file meets, `asked` and `unasked` who was asked, and `complete` that it has answered where it ends with no
-- fault and memory suffices.
pub record RunsTo (call : Call) (expected : Outcome) (old new : RunState) (SameJudges : Type 0) (status : Status) : Type 0 where
  pub report : HasReport expected old.report new.report status
  pub file : HasFile expected.file old.file new.file status
  pub order : IsFileFirst expected.file old.report new.report old.file new.file
  pub met : HasWholeFile old.file new.file status → HasMet call
  pub asked : (qs : List Question) → CallAsks call qs → AskedPanel qs old.judges new.judges status
  pub unasked : CallAsks call [] → SameJudges
  pub complete : IfAnswered (HasAnswered expected old new status) status

-- ---- a reply

-- A reply to a call whose sources are known, before it is written: what it replies behind what was written, what the sink for the new file
-- has taken, that what is promised of a whole file is met, and who was asked.
pub record RepliesTo (call : Call) (old new : RunState) (SameJudges : Type 0) (result : Result Reply Fault) : Type 0 where
  pub reply : Begins (ComesTo call) old.report.written new.report.written result
  pub file : (expected : Outcome) → ComesTo call expected → TakesFile expected.file old.file new.file result
  pub met : HasWhole old.file new.file result → HasMet call
  pub asked : (qs : List Question) → CallAsks call qs → HasHeard fault_heard qs old.judges new.judges result
  pub unasked : CallAsks call [] → SameJudges
