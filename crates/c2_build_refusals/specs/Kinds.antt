-- What an error of a build says, by its kind: whether it says anything of the inputs, where its cause lies, and how far its questions came.
use Rattle.std.specs.Prelude.{◌≡◌, ◌⊎◌, ℕ, ⊤, Bool, true, false, option_map, unwrap_or}
use Rattle.std.specs.declared.result.Result.{Result}
use Rattle.std.specs.declared.result.Result.TheVariants.{Ok, Err}
use Rattle.c2_base.specs.Causes.{Rose}
use Rattle.c2_base.specs.declared.media.MediaError.{MediaError}
use Rattle.c2_base.specs.declared.media.MediaError.TheVariants as media
use Rattle.c2_spec.specs.Reason.{media_refusal}
use Rattle.c2_spec.specs.declared.reason.Refusal.{Refusal}
use Rattle.c2_rules.specs.Asking.{Heard, all, broken, part}
use Rattle.c2_opening.specs.declared.error.ValidateError.{ValidateError}
use Rattle.c2_opening.specs.declared.error.ValidateError.TheVariants as error
use Rattle.c2_build_refusals.specs.declared.error.BuildError.{BuildError}
use Rattle.c2_build_refusals.specs.declared.error.BuildError.TheVariants.{MediaRefused, BadSignature, NotBmff, HasStore, ParentFails, OtherRefused, LabelClash, LabelTaken, NoInstance}
use Rattle.c2_build_refusals.specs.declared.error.BuildError.TheVariants.{OffsetTable, BadTree, BadTable, TooManyManifests, Overflow, ReserveTooSmall, ReadFault, JudgeFault, WriteFault, NoMemory}

-- ---- kinds

-- What an error of a build says: the media, the definition or what is to be built is refused; the signed message is; the media is, as one that
-- gets its store at the front; it is, as one that may have an older store or be a JPEG file; another file, which is to be collected, is; a source, a
-- judge or the sink failed; or memory ran out.
pub data ErrorKind : Type 0 where
  refusal : ErrorKind
  message_refusal : ErrorKind
  front_refusal : ErrorKind
  older_refusal : ErrorKind
  other_refusal : ErrorKind
  read_fault : ErrorKind
  judge_fault : ErrorKind
  write_fault : ErrorKind
  no_memory : ErrorKind

-- what this error says
abbrev pub kind_of : BuildError → ErrorKind
kind_of (BadSignature test) = message_refusal
kind_of (ReserveTooSmall n) = message_refusal
kind_of NotBmff = front_refusal
kind_of HasStore = front_refusal
kind_of (OffsetTable at) = front_refusal
kind_of (BadTree at) = front_refusal
kind_of (BadTable at) = front_refusal
kind_of (Overflow at) = front_refusal
kind_of (ParentFails code uri) = older_refusal
kind_of (LabelTaken label) = older_refusal
kind_of NoInstance = older_refusal
kind_of (TooManyManifests count) = older_refusal
kind_of (OtherRefused answer) = other_refusal
kind_of (LabelClash label) = other_refusal
kind_of ReadFault = read_fault
kind_of JudgeFault = judge_fault
kind_of WriteFault = write_fault
kind_of NoMemory = no_memory
kind_of e = refusal

-- ---- answers

-- this holds, unless an error of this kind says nothing of the inputs: a source, a judge or the sink failed, or memory ran out
abbrev pub KindSays : ErrorKind → Type 0 → Type 0
KindSays read_fault claim = ⊤
KindSays judge_fault claim = ⊤
KindSays write_fault claim = ⊤
KindSays no_memory claim = ⊤
KindSays k claim = claim

-- this holds, unless the error says nothing of the inputs. Which of the errors that say nothing may come, the cause tells
abbrev pub WithoutFault : BuildError → Type 0 → Type 0
WithoutFault e claim = KindSays (kind_of e) claim

-- the error says nothing of the inputs
abbrev pub SaysNothing : BuildError → Type 0
SaysNothing e = WithoutFault e ⊥

-- a result is what the inputs come to, unless it says nothing of them
abbrev pub HasOutcome : {A : Type 0} → (Result A BuildError → Type 0) → Result A BuildError → Type 0
HasOutcome Is (Ok a) = Is (Ok a)
HasOutcome Is (Err e) = WithoutFault e (Is (Err e))

-- a result is what the inputs come to, seen so, unless it says nothing of them
abbrev pub ComesAs : {A B : Type 0} → (B → A → Type 0) → (Result A BuildError → Type 0) → Result B BuildError → Type 0
ComesAs {A} Fits Is (Ok b) = (a : A) × Is (Ok a) × Fits b a
ComesAs Fits Is (Err e) = WithoutFault e (Is (Err e))

-- ---- what a call does

-- What a call or a step does besides reading the media and the definition. Some errors come only of one that does this.
pub record Effects : Type 0 where
  -- the call looks at a signed message
  pub reads_message : Bool
  -- the call asks judges
  pub asks_judges : Bool
  -- the call writes a file
  pub writes_file : Bool
  -- the call moves the chunk tables of a file that gets its store at the front
  pub moves_tables : Bool
  -- the call builds over an older store, or into a JPEG file
  pub takes_older : Bool
  -- the call takes another file, which is collected
  pub takes_other : Bool

-- a call that only reads the media and the definition
abbrev pub no_effects : Effects
no_effects = record { reads_message = false; asks_judges = false; writes_file = false; moves_tables = false; takes_older = false; takes_other = false }

-- a call that looks at a signed message besides the media and the definition
abbrev pub message_effects : Effects
message_effects = record no_effects { reads_message = true }

-- a call that asks judges of an older store, over which it builds
abbrev pub judge_effects : Effects
judge_effects = record no_effects { asks_judges = true; takes_older = true }

-- ---- sources

-- a claim that is made where an error may come; where it may not, the error doesn't come
abbrev pub MayCome : Bool → Type 0 → Type 0
MayCome true claim = claim
MayCome false claim = ⊥

-- The cause of an error of this kind, by a source's count of faults before and after: a refusal leaves the count; the source failed, or another
-- one did. Six kinds come only from a call that does what they tell of.
abbrev pub IsSourceCause : Effects → Type 0 → ℕ → ℕ → ErrorKind → Type 0
IsSourceCause does Other before now refusal = now ≡ before
IsSourceCause does Other before now message_refusal = MayCome does.reads_message (now ≡ before)
IsSourceCause does Other before now front_refusal = MayCome does.moves_tables (now ≡ before)
IsSourceCause does Other before now older_refusal = MayCome does.takes_older (now ≡ before)
IsSourceCause does Other before now other_refusal = MayCome does.takes_other (now ≡ before)
IsSourceCause does Other before now read_fault = Rose before now ⊎ Other
IsSourceCause does Other before now judge_fault = MayCome does.asks_judges ⊤
IsSourceCause does Other before now write_fault = MayCome does.writes_file ⊤
IsSourceCause does Other before now no_memory = ⊤

-- the cause of an error of a step that reads one source and asks judges
abbrev pub IsAskCause : ℕ → ℕ → BuildError → Type 0
IsAskCause before now e = IsSourceCause judge_effects ⊥ before now (kind_of e)

-- The cause of an error of this kind of a step that reads one source, asks no judge and writes nothing.
abbrev pub IsReadKind : Effects → ℕ → ℕ → ErrorKind → Type 0
IsReadKind does before now refusal = now ≡ before
IsReadKind does before now message_refusal = MayCome does.reads_message (now ≡ before)
IsReadKind does before now front_refusal = MayCome does.moves_tables (now ≡ before)
IsReadKind does before now older_refusal = MayCome does.takes_older (now ≡ before)
IsReadKind does before now other_refusal = MayCome does.takes_other (now ≡ before)
IsReadKind does before now read_fault = Rose before now
IsReadKind does before now judge_fault = ⊥
IsReadKind does before now write_fault = ⊥
IsReadKind does before now no_memory = ⊤

-- the cause of an error of a step that reads one source and may look at a signed message
abbrev pub IsMessageCause : ℕ → ℕ → BuildError → Type 0
IsMessageCause before now e = IsReadKind message_effects before now (kind_of e)

-- the cause of an error of a step that does no more than read one source
abbrev pub IsReadCause : ℕ → ℕ → BuildError → Type 0
IsReadCause before now e = IsReadKind no_effects before now (kind_of e)

-- the kind of an error of a step that reads nothing and writes nothing, and looks at no signed message
abbrev pub IsQuietKind : ErrorKind → Type 0
IsQuietKind refusal = ⊤
IsQuietKind no_memory = ⊤
IsQuietKind k = ⊥

-- the error of a step that reads nothing and writes nothing, and looks at no signed message
abbrev pub IsQuiet : BuildError → Type 0
IsQuiet e = IsQuietKind (kind_of e)

-- the kind of an error of a step that reads and writes nothing, of a call that builds over an older store, or into a JPEG file
abbrev pub IsOlderQuietKind : ErrorKind → Type 0
IsOlderQuietKind older_refusal = ⊤
IsOlderQuietKind k = IsQuietKind k

-- the error of a step that reads and writes nothing, of a call that builds over an older store, or into a JPEG file
abbrev pub IsOlderQuiet : BuildError → Type 0
IsOlderQuiet e = IsOlderQuietKind (kind_of e)

-- the error of a build that a refusal of the media is
abbrev pub refused_by : Refusal → BuildError
refused_by r = MediaRefused r.reason r.number

-- the error of a build that an error is which refuses nothing of the media
abbrev pub media_fault : MediaError → BuildError
media_fault media.ReadFault = ReadFault
media_fault e = NoMemory

-- the error of a build that an error of a walk over the media is
abbrev pub media_error_of : MediaError → BuildError
media_error_of e = unwrap_or (option_map refused_by (media_refusal e)) (media_fault e)

-- the fault of a build that a fault of the check is
abbrev pub fault_of : ValidateError → BuildError
fault_of error.ReadFault = ReadFault
fault_of error.JudgeFault = JudgeFault
fault_of error.NoMemory = NoMemory

-- ---- judges

-- How far a build came with its questions that ended with an error of this kind: what is refused, and what fails while the new file is written,
-- comes after the last question.
abbrev pub heard_of : ErrorKind → Heard
heard_of read_fault = part
heard_of judge_fault = broken
heard_of no_memory = part
heard_of k = all

-- how far it came that ended with this error
abbrev pub build_heard : BuildError → Heard
build_heard e = heard_of (kind_of e)
