-- What a run leaves of the objects that it is handed, whatever they hold. After the run its status says it; before the reply is written
-- the result of the command does.
use Rattle.std.specs.Prelude.{◌≡◌, ◌⊎◌, ℕ, ◌<◌, ◌≤◌, Bool, true, List, IfErr, OnOk}
use Rattle.std.specs.declared.option.Option.{Option}
use Rattle.std.specs.declared.result.Result.{Result}
use Rattle.c2_base.specs.Sink.{Grows}
use Rattle.c2_base.specs.Source.{StaysSource}
use Rattle.c2_build_endings.specs.Sources.{SourceUse}
use Rattle.c2_base.specs.declared.values.Question.{Question}
use Rattle.c2_spec.specs.declared.panel.Verdict.{Verdict}
use Rattle.c2_spec.specs.Judges.Panel.{NoneFell, Judges, judges_of}
use Rattle.c2_cmd_outcome.specs.Reply.{FileEnd}
use Rattle.c2_cmd_outcome.specs.Status.{HasNoReply, WithFault, IfAnswered}
use Rattle.c2_cmd_outcome.specs.declared.reply.Fault.{Fault}
use Rattle.c2_cmd_outcome.specs.declared.reply.Fault.TheVariants.{Judge}
use Rattle.c2_cmd_outcome.specs.declared.reply.Reply.{Reply}
use Rattle.c2_cmd_outcome.specs.declared.types.Status.{Status}
use Rattle.c2_cmd_outcome.specs.declared.types.Status.TheVariants.{Done, InputFault, OutputFault, JudgeFault, NoMemory}

-- ---- by the status of the run

-- What is left of a source: its length and its bytes; its count of faults hasn't fallen, and after an answer it is as it was.
pub record KeepsSource {S : Type 0} (len : S → ℕ) (known : S → Option (List ℕ)) (faults : S → ℕ) (old new : S) (status : Status) : Type 0 where
  pub stays : StaysSource len known faults old new
  pub quiet : IfAnswered (faults new ≡ faults old) status

-- What is left of the sources.
pub record KeepsSources {A B C D : Type 0} (a : SourceUse A) (b : SourceUse B) (c : SourceUse C) (d : SourceUse D) (status : Status) : Type 0 where
  -- the media file
  pub media : KeepsSource a.len a.known a.faults a.old a.new status
  -- the second file
  pub second : KeepsSource b.len b.known b.faults b.old b.new status
  -- the third file
  pub third : KeepsSource c.len c.known c.faults c.old c.new status
  -- the fourth file
  pub fourth : KeepsSource d.len d.known d.faults d.old d.new status

-- Whether the new file is finished, by the status: after a failure of a source it isn't by this call; after one of a sink it isn't,
-- unless it is the report that failed behind it; out of memory it is untouched, or finished; a command that is done has finished the
-- file that it names; and every other answer leaves it untouched.
abbrev pub FileEnds : (named : Bool) (ReportFailed Untouched : Type 0) (before now : Bool) → Status → Type 0
FileEnds named ReportFailed Untouched before now InputFault = now ≡ before
FileEnds named ReportFailed Untouched before now OutputFault = (now ≡ before) ⊎ ReportFailed
FileEnds named ReportFailed Untouched before now NoMemory = Untouched ⊎ (now ≡ true)
FileEnds named ReportFailed Untouched before now Done = named ≡ true → now ≡ true
FileEnds named ReportFailed Untouched before now status = Untouched

-- What is left of the sink for the new file: what it took stays; its count of faults hasn't fallen, and after an answer it is as it was;
-- one that rose leaves the file unfinished; and whether it is finished, by the status.
pub record KeepsOut {K : Type 0} (written : K → Option (List ℕ)) (finished : K → Bool) (faults : K → ℕ) (named : Bool) (ReportFailed : Type 0) (old new : K) (status : Status) : Type 0 where
  pub later : faults old ≤ faults new
  pub quiet : IfAnswered (faults new ≡ faults old) status
  pub grows : Grows (written old) (written new)
  pub unfinished : faults old < faults new → finished new ≡ finished old
  pub ends : FileEnds named ReportFailed (new ≡ old) (finished old) (finished new) status

-- What is left of the report: what it took stays; its count of faults hasn't fallen, and after an answer it is as it was; an answer
-- finishes it, and no fault does; where the whole of it is there before any of it is written, a run without a reply leaves it untouched,
-- and so does a judge that fails; and nothing is written to it while a new file is begun and unfinished. `FileReady` says that the new
-- file is untouched or finished.
pub record KeepsReport {W : Type 0} (written : W → Option (List ℕ)) (finished : W → Bool) (faults : W → ℕ) (whole : Bool) (FileReady : Type 0) (old new : W) (status : Status) : Type 0 where
  pub later : faults old ≤ faults new
  pub quiet : IfAnswered (faults new ≡ faults old) status
  pub grows : Grows (written old) (written new)
  pub is_finished : IfAnswered (finished new ≡ true) status
  pub unfinished : WithFault (finished new ≡ finished old) status
  pub unwritten : whole ≡ true → HasNoReply status → new ≡ old
  pub judged : status ≡ JudgeFault → new ≡ old
  pub behind : (new ≡ old) ⊎ FileReady

-- What is left of the judges: each says what it said, no count has fallen, and after an answer those of faults are as they were.
pub record KeepsJudges (old new : Judges) (status : Status) : Type 0 where
  pub same : new.said ≡ old.said
  pub asked_later : NoneFell old.asked new.asked
  pub faults_later : NoneFell old.faults new.faults
  pub quiet : IfAnswered (new.faults ≡ old.faults) status

-- what is left of the judges, by the meanings of the trait
abbrev pub KeepsPanel : {J : Type 0} (says : J → Question → Verdict) (times faults : J → ℕ) (old new : List J) → Status → Type 0
KeepsPanel says times faults old new status =
    KeepsJudges (judges_of says times faults old) (judges_of says times faults new) status

-- ---- for private clauses: before the reply is written

-- what is left of a source: its length and its bytes, and by a reply its count of faults
pub record LeavesSource {S : Type 0} (len : S → ℕ) (known : S → Option (List ℕ)) (faults : S → ℕ) (old new : S) (result : Result Reply Fault) : Type 0 where
  pub stays : StaysSource len known faults old new
  pub quiet : OnOk result (faults new ≡ faults old)

-- what is left of the sources
pub record LeavesSources {A B C D : Type 0} (a : SourceUse A) (b : SourceUse B) (c : SourceUse C) (d : SourceUse D) (result : Result Reply Fault) : Type 0 where
  pub media : LeavesSource a.len a.known a.faults a.old a.new result
  pub second : LeavesSource b.len b.known b.faults b.old b.new result
  pub third : LeavesSource c.len c.known c.faults c.old c.new result
  pub fourth : LeavesSource d.len d.known d.faults d.old d.new result

-- What is left of the sink for the new file: what it took stays, and by a reply its count of faults; a count that rose leaves it
-- unfinished; and whether one that the command names is finished, by the result.
pub record LeavesOut {K : Type 0} (written : K → Option (List ℕ)) (finished : K → Bool) (faults : K → ℕ) (named : Bool) (old new : K) (result : Result Reply Fault) : Type 0 where
  pub later : faults old ≤ faults new
  pub quiet : OnOk result (faults new ≡ faults old)
  pub grows : Grows (written old) (written new)
  pub unfinished : faults old < faults new → finished new ≡ finished old
  pub ends : named ≡ true → FileEnd (new ≡ old) (finished old) (finished new) result

-- What is left of the report: what it took stays, and by a reply its count of faults; it isn't finished; and it is untouched where the
-- whole of it is there before any of it is written, or where a judge failed.
pub record LeavesReport {W : Type 0} (written : W → Option (List ℕ)) (finished : W → Bool) (faults : W → ℕ) (whole : Bool) (old new : W) (result : Result Reply Fault) : Type 0 where
  pub later : faults old ≤ faults new
  pub quiet : OnOk result (faults new ≡ faults old)
  pub grows : Grows (written old) (written new)
  pub unfinished : finished new ≡ finished old
  pub unwritten : whole ≡ true → new ≡ old
  pub judged : IfErr result (λ e. e ≡ Judge → new ≡ old)

-- what is left of each object: the sources, the sink for the new file, the report, and the judges
pub record LeavesEach (Sources Out Report Panel : Type 0) : Type 0 where
  pub sources : Sources
  pub out : Out
  pub report : Report
  pub judges : Panel
