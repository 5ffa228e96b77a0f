-- What a build of a new store comes to, as a command says it: what is reported of it, or the fault of the run that it is.
use Rattle.std.specs.Prelude.{◌≡◌, ℕ, List, [], IfErr, Ok, Err, Some, None, ⊤}
use Rattle.std.specs.declared.option.Option.{Option}
use Rattle.std.specs.declared.result.Result.{Result}
use Rattle.c2_build_refusals.specs.Kinds.{Effects, ErrorKind, MayCome, kind_of, refusal, message_refusal, front_refusal, older_refusal, other_refusal, read_fault, judge_fault, write_fault, no_memory}
use Rattle.c2_build_refusals.specs.declared.error.BuildError.{BuildError}
use Rattle.c2_build_refusals.specs.declared.error.BuildError.TheVariants as build
use Rattle.c2_build_refusals.specs.declared.types.Embedded.{Embedded}
use Rattle.c2_texts.specs.Builds.{bad_definition_line, bad_signature_line, bad_table_line, bad_tree_line, embedded_line, has_store_line, label_clash_line, label_taken_line, media_refused_line, no_instance_line}
use Rattle.c2_texts.specs.Builds.{not_bmff_line, offset_table_line, open_box_line, other_refused_line, overflow_line, parent_fails_line, redaction_refused_line, reserve_too_small_line, store_too_large_line, tbs_line, too_many_manifests_line}
use Rattle.c2_cmd_outcome.specs.Outcome.{Outcome, reports}
use Rattle.c2_cmd_outcome.specs.Reply.{outcome_of}
use Rattle.c2_cmd_outcome.specs.declared.reply.Fault.{Fault}
use Rattle.c2_cmd_outcome.specs.declared.reply.Fault.TheVariants.{Input, Output, Judge, Memory}
use Rattle.c2_cmd_outcome.specs.declared.reply.Reply.{Reply}
use Rattle.c2_cmd_outcome.specs.declared.types.Answer.TheVariants as answer
use Rattle.c2_cmd_written_spec.specs.Written.{with_file}

-- ---- what is refused

-- the line of a build that is refused: a failure of the outside has none, since no report is written then
abbrev pub refusal_line : BuildError → List ℕ
refusal_line (build.MediaRefused reason number) = media_refused_line reason number
refusal_line (build.BadDefinition field) = bad_definition_line field
refusal_line (build.BadSignature part) = bad_signature_line part
refusal_line build.NotBmff = not_bmff_line
refusal_line build.HasStore = has_store_line
refusal_line (build.ParentFails code uri) = parent_fails_line code uri
refusal_line (build.OtherRefused told) = other_refused_line told
refusal_line (build.LabelClash label) = label_clash_line label
refusal_line (build.LabelTaken label) = label_taken_line label
refusal_line (build.RedactionRefused text code) = redaction_refused_line text code
refusal_line (build.OpenBox at) = open_box_line at
refusal_line build.NoInstance = no_instance_line
refusal_line (build.OffsetTable at) = offset_table_line at
refusal_line (build.BadTree at) = bad_tree_line at
refusal_line (build.BadTable at) = bad_table_line at
refusal_line (build.TooManyManifests count) = too_many_manifests_line count
refusal_line (build.StoreTooLarge len) = store_too_large_line len
refusal_line (build.Overflow at) = overflow_line at
refusal_line (build.ReserveTooSmall needed) = reserve_too_small_line needed
refusal_line build.ReadFault = []
refusal_line build.JudgeFault = []
refusal_line build.WriteFault = []
refusal_line build.NoMemory = []

-- what is reported of a build that is refused
abbrev pub refused_build : BuildError → Outcome
refused_build e = reports answer.BuildRefused (refusal_line e)

-- the fault that an error of this kind stands for: none for what is refused
abbrev pub kind_fault : ErrorKind → Option Fault
kind_fault refusal = None
kind_fault message_refusal = None
kind_fault front_refusal = None
kind_fault older_refusal = None
kind_fault other_refusal = None
kind_fault read_fault = Some Input
kind_fault judge_fault = Some Judge
kind_fault write_fault = Some Output
kind_fault no_memory = Some Memory

-- the fault that an error of a build stands for
abbrev pub build_fault : BuildError → Option Fault
build_fault e = kind_fault (kind_of e)

-- this outcome, unless there is a fault
abbrev pub unless_fault : Option Fault → Outcome → Result Outcome Fault
unless_fault None o = Ok o
unless_fault (Some f) o = Err f

-- what an error of a build comes to: what is reported of a refusal, or the fault
abbrev pub error_says : BuildError → Result Outcome Fault
error_says e = unless_fault (build_fault e) (refused_build e)

-- ---- what is built

-- what the result of a build comes to, where this is reported of what is built
abbrev pub build_says : {A : Type 0} → (A → Outcome) → Result A BuildError → Result Outcome Fault
build_says report (Ok a) = Ok (report a)
build_says report (Err e) = error_says e

-- what is reported of bytes that are to be signed
abbrev pub tbs_outcome : List ℕ → Outcome
tbs_outcome bytes = reports answer.Done (tbs_line bytes)

-- what is reported of the range that a new store takes in a new file, by its start and its length
abbrev pub range_outcome : ℕ → ℕ → Outcome
range_outcome start length = reports answer.Done (embedded_line start length)

-- what is reported of the embedded range that a build answers
abbrev pub embedded_outcome : Embedded → Outcome
embedded_outcome range = range_outcome range.start range.length

-- what is reported of what a build comes to: of what is built this, or what is refused
abbrev pub result_outcome : {A : Type 0} → (A → Outcome) → Result A BuildError → Outcome
result_outcome report (Ok a) = report a
result_outcome report (Err e) = refused_build e

-- the outcome of a build of a new file, which has these bytes and of which this is reported: there is no file where the build is refused
abbrev pub new_file_outcome : {N : Type 0} → (N → List ℕ) → (N → Outcome) → Result N BuildError → Outcome
new_file_outcome bytes report (Ok b) = with_file (Some (bytes b)) (report b)
new_file_outcome bytes report (Err e) = refused_build e

-- ---- replies over sources whose bytes are unknown

-- what is refused in this way comes of a call that does this; no failure of the outside is among it
abbrev pub IsRefusalKind : Effects → ErrorKind → Type 0
IsRefusalKind does refusal = ⊤
IsRefusalKind does message_refusal = MayCome does.reads_message ⊤
IsRefusalKind does front_refusal = MayCome does.moves_tables ⊤
IsRefusalKind does older_refusal = MayCome does.takes_older ⊤
IsRefusalKind does other_refusal = MayCome does.takes_other ⊤
IsRefusalKind does k = ⊥

-- this is refused by a call that does this
abbrev pub IsRefusedBy : Effects → BuildError → Type 0
IsRefusedBy does e = IsRefusalKind does (kind_of e)

-- a reply to a build reports something that is built, or a refusal of which this holds
abbrev pub IsBuildReply : {A : Type 0} → (BuildError → Type 0) → (A → Outcome) → Reply → Type 0
IsBuildReply {A} IsRefusal report reply =
    (r : Result A BuildError) × IfErr r IsRefusal × (outcome_of reply ≡ result_outcome report r)
