-- For private clauses: faults of the calls below, a media file that is opened, the store that is found in it, and what is asked of its
-- manifests.
use Rattle.std.specs.Prelude.{◌≡◌, ◌≢◌, ℕ, ◌+◌, ◌≤◌, List, [], ◌++◌, ⊤, Ok}
use Rattle.std.specs.declared.alloc.Global.{Global}
use Rattle.std.specs.declared.vec.Vec.{Vec}
use Rattle.std.specs.List.{flat_map}
use Rattle.std.specs.Option.{option_to_list}
use Rattle.c2_base.specs.declared.media.Found.{Found}
use Rattle.c2_base.specs.declared.values.Question.{Question}
use Rattle.c2_spec.specs.declared.panel.Verdict.{Verdict}
use Rattle.c2_spec.specs.declared.store.ManifestBoxes.{ManifestBoxes}
use Rattle.c2_spec.specs.C2pa.Manifest.{IsStoreOf, manifests_of}
use Rattle.c2_spec.specs.Container.{IsLocated}
use Rattle.c2_spec.specs.Jumbf.Tree.{Tree}
use Rattle.c2_spec.specs.Located.{Opening, Located, refused, absent, here}
use Rattle.c2_rules.specs.Asking.{HearsPanel}
use Rattle.c2_rules.specs.CheckList.{Asked, questions}
use Rattle.c2_rules.specs.Claims.{Chained}
use Rattle.c2_rules.specs.Opened.{IsBoxTree, IsManifestStore}
use Rattle.c2_rules.specs.Readings.{Reading, AreReadings}
use Rattle.c2_rules.specs.Validated.{AreQuestions, OpenedAsks}
use Rattle.c2_calls_spec.specs.Asks.{AsksThese}
use Rattle.c2_texts.specs.Texts.{refused_line, none_line}
use Rattle.c2_compare_evidence.specs.declared.error.CompareError.{CompareError}
use Rattle.c2_compare_evidence.specs.declared.error.CompareError.TheVariants as compare_error
use Rattle.c2_cmd_outcome.specs.Outcome.{Outcome, reports, Reports}
use Rattle.c2_cmd_outcome.specs.Reply.{fault_heard, outcome_of}
use Rattle.c2_cmd_outcome.specs.declared.reply.Fault.{Fault}
use Rattle.c2_cmd_outcome.specs.declared.reply.Fault.TheVariants.{Input, Output, Judge, Memory}
use Rattle.c2_cmd_outcome.specs.declared.reply.Reply.{Reply}
use Rattle.c2_cmd_outcome.specs.declared.types.Answer.TheVariants as answer
use Rattle.c2_cmd_reading.specs.Outcomes.{IsListing, IsMediaOutcome, IsQuestioned, verdict_lines}
use Rattle.c2_cmd_reading.specs.declared.open.Stored.{Stored}
use Rattle.c2_cmd_reading.specs.declared.open.Stored.TheVariants as stored
use Rattle.c2_cmd_reading.specs.declared.prepare.Prepared.{Prepared}
use Rattle.c2_cmd_reading.specs.declared.prepare.Prepared.TheVariants as prepared

-- the fault that an error of a comparison stands for
abbrev pub compare_fault : CompareError → Fault
compare_fault compare_error.ReadFault = Input
compare_fault compare_error.WriteFault = Output
compare_fault compare_error.JudgeFault = Judge
compare_fault compare_error.NoMemory = Memory

-- ---- the media

-- what every command reports that reads, of a file that is refused or has no store
abbrev pub IsShort : Located → Outcome → Type 0
IsShort (refused reason number) expected = expected ≡ reports answer.Refused (refused_line reason number)
IsShort absent expected = expected ≡ reports answer.NoStore none_line
IsShort (here start len store) expected = ⊥

-- a media file was opened: its store was found in this range, or this is the reply to every command that reads
abbrev pub IsStored : List ℕ → Stored → Type 0
IsStored file (stored.Here f) = IsLocated file (here f.start f.length f.store)
IsStored file (stored.Reply reply) = (l : Located) × IsLocated file l × IsShort l (outcome_of reply)

-- the embedded range lies inside a file of this length; and a reply answers no words that fit no command
abbrev pub IsStoredIn : ℕ → Stored → Type 0
IsStoredIn len (stored.Here f) = f.start + f.length ≤ len
IsStoredIn len (stored.Reply reply) = reply.answer ≢ answer.Usage

-- ---- a store that was found

-- the outcome of a command that reads the manifests of this store
abbrev pub IsFoundOutcome : (Tree → Outcome → Type 0) → Found → Outcome → Type 0
IsFoundOutcome IsExpected f expected = (what : Opening Tree) × IsManifestStore f.start f.length f.store what × Reports (λ start len t e. IsExpected t e) what expected

-- the reply of such a command, and the reply of `list`
abbrev pub RepliesOver : (Tree → Outcome → Type 0) → Found → Reply → Type 0
RepliesOver IsExpected f reply = IsFoundOutcome IsExpected f (outcome_of reply)

-- the reply of `list` over a store that was found: its boxes, or why they are refused
abbrev pub ListsStore : Found → Reply → Type 0
ListsStore f reply = (what : Opening Tree) × IsBoxTree f.start f.length f.store what × Reports IsListing what (outcome_of reply)

-- ---- questions

-- the questions of these manifests
abbrev pub questions_in : List Asked → List Question
questions_in asked = flat_map (λ (a : Asked). option_to_list a.question) asked

-- the outcome where these manifests are asked of
abbrev pub asked_outcome : List Asked → (Question → Verdict) → Outcome
asked_outcome asked said = reports answer.Done (verdict_lines said asked)

-- the boxes and the chain of the manifests of this box tree
pub record IsChainOf (t : Tree) (s : List ManifestBoxes) (c : Chained) : Type 0 where
  pub store : IsStoreOf t s
  pub manifests : c.manifests ≡ manifests_of t
  pub reads : AreReadings (manifests_of t) c.readings

-- `questions` is prepared: this is the reply whatever the judges say, and nothing is asked; or these manifests are to be asked of
abbrev pub Prepares : (List Question → Type 0) → ((Question → Verdict) → Outcome → Type 0) → Prepared → Type 0
Prepares AreAsked IsExpected (prepared.Reply reply) = AreAsked [] × ((said : Question → Verdict) → IsExpected said (outcome_of reply))
Prepares AreAsked IsExpected (prepared.Ask asked) = AreAsked (questions_in asked.items) × ((said : Question → Verdict) → IsExpected said (asked_outcome asked.items said))

-- `questions` is prepared over a media file
abbrev pub PreparesMedia : List ℕ → Prepared → Type 0
PreparesMedia file = Prepares (AreQuestions file) (λ said. IsMediaOutcome (IsQuestioned said) file)

-- the questions that `questions` asks over a store that was found
abbrev pub AsksOfFound : Found → List Question → Type 0
AsksOfFound f qs = (what : Opening Tree) × IsManifestStore f.start f.length f.store what × OpenedAsks questions what qs

-- `questions` is prepared over a store that was found
abbrev pub PreparesFound : Found → Prepared → Type 0
PreparesFound f = Prepares (AsksOfFound f) (λ said. IsFoundOutcome (IsQuestioned said) f)

-- the questions that `questions` asks over the box tree of a store
abbrev pub AsksOfTree : Tree → List Question → Type 0
AsksOfTree t qs = (rs : List Reading) × AreReadings (manifests_of t) rs × (qs ≡ questions rs)

-- `questions` is prepared over the box tree of a store
abbrev pub PreparesTree : Tree → Prepared → Type 0
PreparesTree t = Prepares (AsksOfTree t) (λ said. IsQuestioned said t)

-- a reply answers no words that fit no command
abbrev pub HasNoUsage : Prepared → Type 0
HasNoUsage (prepared.Reply reply) = reply.answer ≢ answer.Usage
HasNoUsage (prepared.Ask asked) = ⊤

-- the first of these questions were asked, up to the rest, and no judge failed
pub record HasAskedBefore {J : Type 0} (says : J → Question → Verdict) (times faults : J → ℕ) (all rest : List Question) (old new : Vec J Global) : Type 0 where
  pub front : List Question
  pub split : all ≡ front ++ rest
  pub heard : HearsPanel {T = Unit {0}} {E = Fault} says times faults fault_heard (AsksThese front) old new (Ok tt)
