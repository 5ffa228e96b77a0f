-- What a new file meets.
use Rattle.std.specs.Prelude.{◌≡◌, ℕ, ◌<◌, ◌^◌, ⊤, Bool, true, List, [], ◌∷◌, All, take, drop}
use Rattle.std.specs.declared.result.Result.{Result}
use Rattle.std.specs.declared.result.Result.TheVariants.{Ok, Err}
use Rattle.c2_base.specs.declared.values.Question.{Question}
use Rattle.c2_spec.specs.Bmff.Boxes.{Box, box_bytes}
use Rattle.c2_spec.specs.Bmff.Writing.{freed}
use Rattle.c2_spec.specs.C2pa.Manifest.{Manifest}
use Rattle.c2_spec.specs.C2pa.Sign1.{SignParts, SpellsMessage}
use Rattle.c2_spec.specs.Container.{is_bmff}
use Rattle.c2_spec.specs.Jumbf.Tree.{Tree}
use Rattle.c2_spec.specs.PutIn.{taken_out}
use Rattle.c2_spec.specs.declared.digest.Alg.{Alg}
use Rattle.c2_spec.specs.declared.panel.Verdict.{Verdict}
use Rattle.c2_spec.specs.declared.panel.Verdict.TheVariants.{Approved}
use Rattle.c2_rules.specs.CheckList.{AreApproved, IsValid, StoreReading, check_list, questions, unjudged_list}
use Rattle.c2_rules.specs.Readings.{AreReadings}
use Rattle.c2_rules.specs.Tests.{AllHold, first_failing}
use Rattle.c2_rules.specs.Validated.{AreQuestions, IsAnswer, IsFileReading}
use Rattle.c2_rules.specs.declared.answer.Answer.TheVariants as answer
use Rattle.c2_rules.specs.declared.answer.Summary.{Summary}
use Rattle.c2_definition.specs.DefinitionFile.{IsDefinition}
use Rattle.c2_definition.specs.declared.types.Definition.{Definition}
use Rattle.c2_new_signature.specs.Signed.{IsSigned}
use Rattle.c2_new_file_spec.specs.Fresh.{GivesDigests, MeetsTheRules}
use Rattle.c2_new_file_spec.specs.Places.{IsPlace, Place, place_start, place_store}
use Rattle.c2_build_plain.specs.Building.{Built, IsEmbedded, IsPlanned}
use Rattle.c2_build_refusals.specs.Stages.{HasTextsIn, IsDefinitionRefused, IsDefinitionStage, IsGroundStage, IsMediaRefused, IsMediaStage, IsMessageRefused, IsMessageStage, MediaKind, fresh, stored}
use Rattle.c2_build_refusals.specs.Refusals.{AllPass, Ground, ground_tests, older_tests, redaction_tests, reserve_tests}
use Rattle.c2_build_refusals.specs.declared.error.BuildError.{BuildError}
use Rattle.c2_build_refusals.specs.declared.types.Embedded.{Embedded}
use Rattle.c2_new_file_spec.specs.Store.{new_alg}

-- ---- one outcome

-- `plan` comes to one thing over the same inputs
abbrev pub OnePlan : Type 0
OnePlan = (hash : Alg → List ℕ → List ℕ) (said : Question → Verdict) (media definition : List ℕ) (a b : Result (List ℕ) BuildError)
    → IsPlanned hash said media definition a → IsPlanned hash said media definition b → a ≡ b

-- `embed` comes to one thing over the same inputs
abbrev pub OneEmbedding : Type 0
OneEmbedding = (hash : Alg → List ℕ → List ℕ) (said : Question → Verdict) (media definition message : List ℕ) (a b : Result Built BuildError)
    → IsEmbedded hash said media definition message a → IsEmbedded hash said media definition message b → a ≡ b

-- `plan` comes to something over each media file and each definition file
abbrev pub SomePlan : Type 0
SomePlan = (hash : Alg → List ℕ → List ℕ) (said : Question → Verdict) (media definition : List ℕ) → All (λ b. b < 2 ^ 8) media
    → (r : Result (List ℕ) BuildError) × IsPlanned hash said media definition r

-- `embed` comes to something over each media file, each definition file and each message
abbrev pub SomeEmbedding : Type 0
SomeEmbedding = (hash : Alg → List ℕ → List ℕ) (said : Question → Verdict) (media definition message : List ℕ) → All (λ b. b < 2 ^ 8) media
    → All (λ b. b < 2 ^ 8) message → (r : Result Built BuildError) × IsEmbedded hash said media definition message r

-- ---- no refusal, then something

-- Each test of what is built over a media file of this kind passes: those of the definition's redactions, and of an older store before
-- them that its check holds and that no manifest has the new label.
abbrev pub GroundPasses : (Alg → List ℕ → List ℕ) → (Question → Verdict) → List ℕ → Definition → MediaKind → Type 0
GroundPasses hash said media d fresh = AllPass (redaction_tests d [])
GroundPasses hash said media d (stored start len t) =
    (s : StoreReading) → IsFileReading media t s
    → AllPass (older_tests d s.readings (first_failing (check_list hash said s)))

-- No refusal of `plan` has its condition: neither file is refused, and each test passes of what is built over and of its place. The
-- order of the tests doesn't matter.
pub record IsPlanUnrefused (hash : Alg → List ℕ → List ℕ) (said : Question → Verdict)
    (media definition : List ℕ) : Type 0 where
  pub media_passes : IsMediaRefused media → ⊥
  pub definition_passes : IsDefinitionRefused definition → ⊥
  pub ground_passes : (kind : MediaKind) (d : Definition) → IsMediaStage media (Ok kind)
      → IsDefinitionStage definition (Ok d) → GroundPasses hash said media d kind
  pub place_passes : (kind : MediaKind) (d : Definition) (g : Ground) (p : Place) → IsMediaStage media (Ok kind)
      → IsDefinitionStage definition (Ok d) → IsGroundStage hash said media d kind (Ok g) → IsPlace g.base p
      → AllPass (ground_tests g p)

-- No refusal of `embed` has its condition: none of `plan`, the message isn't refused, and it fits into what the definition reserves.
pub record IsEmbedUnrefused (hash : Alg → List ℕ → List ℕ) (said : Question → Verdict)
    (media definition message : List ℕ) : Type 0 where
  pub plan : IsPlanUnrefused hash said media definition
  pub message_passes : IsMessageRefused definition message → ⊥
  pub reserve_passes : (d : Definition) (parts : SignParts) → IsDefinitionStage definition (Ok d)
      → IsMessageStage d.protected message (Ok parts) → AllPass (reserve_tests d parts)

-- `plan` comes to bytes to be signed where no refusal has its condition
abbrev pub UnrefusedIsPlanned : Type 0
UnrefusedIsPlanned = (hash : Alg → List ℕ → List ℕ) (said : Question → Verdict) (media definition : List ℕ)
    → All (λ b. b < 2 ^ 8) media → IsPlanUnrefused hash said media definition
    → (bytes : List ℕ) × IsPlanned hash said media definition (Ok bytes)

-- `embed` comes to a new file where no refusal has its condition
abbrev pub UnrefusedIsEmbedded : Type 0
UnrefusedIsEmbedded = (hash : Alg → List ℕ → List ℕ) (said : Question → Verdict) (media definition message : List ℕ)
    → All (λ b. b < 2 ^ 8) media → All (λ b. b < 2 ^ 8) message → IsEmbedUnrefused hash said media definition message
    → (b : Built) × IsEmbedded hash said media definition message (Ok b)

-- ---- verdicts

-- Approval of every question is all that a store lacks whose other rules hold.
abbrev pub ApprovedIsValid : Type 0
ApprovedIsValid = (hash : Alg → List ℕ → List ℕ) (said : Question → Verdict) (ms : List Manifest) (s : StoreReading)
    → AreReadings ms s.readings → AllHold (unjudged_list hash s) → AreApproved said (questions s.readings) → IsValid hash said s

-- ---- the bytes that stay

-- In this range of a BMFF file stands a box, and in the same range of another file that box as free space: as long, and zero behind its
-- header (ISO/IEC 14496-12, section 8.1.2). Less the range, both files are equal.
pub record IsFreedIn (media : List ℕ) (start len : ℕ) (base : List ℕ) : Type 0 where
  pub old : Box
  pub was : take len (drop start media) ≡ box_bytes old
  pub now : take len (drop start base) ≡ box_bytes (freed old)
  pub others : taken_out start len base ≡ taken_out start len media

-- What is left of a media file with its store in this range: the file less the range, or the file with the store's box freed.
pub data IsLessStore (media : List ℕ) (start len : ℕ) (base : List ℕ) : Type 0 where
  cut_out : base ≡ taken_out start len media → IsLessStore media start len base
  made_free : IsFreedIn media start len base → IsLessStore media start len base

-- A file keeps the bytes of a media file of this kind that stand outside its embedded range, in order: all of them where it has no
-- store.
abbrev pub KeepsBytes : List ℕ → MediaKind → List ℕ → Type 0
KeepsBytes media fresh base = base ≡ media
KeepsBytes media (stored start len t) base = IsLessStore media start len base

-- ---- the new file

-- The store is the new one of the definition that a file is, over the ground that this media file gives, in the place of that.
-- Its message is the signed one, padded to the bytes that the definition reserves.
pub record IsNewStore (hash : Alg → List ℕ → List ℕ) (said : Question → Verdict) (media definition message : List ℕ) (store : Tree) : Type 0 where
  pub new : Definition
  pub defined : IsDefinition definition (Ok new)
  pub kind : MediaKind
  pub opened : IsMediaStage media (Ok kind)
  pub ground : Ground
  pub grounded : IsGroundStage hash said media new kind (Ok ground)
  pub parts : SignParts
  pub spelled : SpellsMessage message parts
  pub padded : List ℕ
  pub filled : IsSigned parts new.reserve padded
  pub place : Place
  pub placed : IsPlace ground.base place
  pub is : store ≡ place_store (hash (new_alg ground.content.definition)) ground.content padded ground.base place

-- The file has its new store in the new range, which begins at the place, and all rules hold of it apart from verdicts. It asks the
-- question of the new manifest, over the bytes that `plan` gives, and then those of the media file, which the judges of the build
-- approve. Without the new range it is what it was built over: the bytes of the media outside its embedded range stay, in order. A panel
-- that approves all its questions finds it valid.
pub record BuiltMeets (hash : Alg → List ℕ → List ℕ) (said : Question → Verdict) (media definition message : List ℕ) (b : Built) : Type 0 where
  pub store : Tree
  pub question : Question
  pub older : List Question
  pub written : IsNewStore hash said media definition message store
  pub meets : MeetsTheRules hash b.file b.start b.len store (question ∷ older)
  pub signed : IsPlanned hash said media definition (Ok question.tbs)
  pub asked : AreQuestions media older
  pub approved : AreApproved said older
  pub begins : b.start ≡ place_start written.place
  pub base : taken_out b.start b.len b.file ≡ written.ground.base
  pub kept : KeepsBytes media written.kind (taken_out b.start b.len b.file)
  pub accepted : (others : Question → Verdict) → AreApproved others (question ∷ older)
      → (s : Summary) × IsAnswer hash others b.file (answer.Valid s)

-- What `embed` writes meets this.
abbrev pub BuiltFileMeets : Type 0
BuiltFileMeets = (hash : Alg → List ℕ → List ℕ) (said : Question → Verdict) (media definition message : List ℕ) (b : Built)
    → GivesDigests hash → HasTextsIn definition → IsEmbedded hash said media definition message (Ok b)
    → BuiltMeets hash said media definition message b

-- the new file that is answered meets this
abbrev pub IsBuildMet : (Alg → List ℕ → List ℕ) → (Question → Verdict) → List ℕ → List ℕ → List ℕ → Result Embedded BuildError → Type 0
IsBuildMet hash said media definition message (Ok e) =
    (b : Built) → IsEmbedded hash said media definition message (Ok b) → BuiltMeets hash said media definition message b
IsBuildMet hash said media definition message (Err e) = ⊤

-- Some build succeeds, whatever the hash: what is said of new files is said of some.
abbrev pub SomeBuildSucceeds : Type 0
SomeBuildSucceeds = (hash : Alg → List ℕ → List ℕ) (said : Question → Verdict)
    → (media : List ℕ) × (definition : List ℕ) × (message : List ℕ) × (b : Built)
    × HasTextsIn definition × IsEmbedded hash said media definition message (Ok b)

-- Some build into a BMFF file succeeds, whatever the hash.
abbrev pub SomeBmffSucceeds : Type 0
SomeBmffSucceeds = (hash : Alg → List ℕ → List ℕ) (said : Question → Verdict)
    → (media : List ℕ) × (definition : List ℕ) × (message : List ℕ) × (b : Built)
    × (is_bmff media ≡ true) × HasTextsIn definition × IsEmbedded hash said media definition message (Ok b)

-- Some build into a file with a store succeeds, both of a BMFF file and of a JPEG file, where the hash gives digests and judges approve each
-- question.
abbrev pub SomeBuildOverStoreSucceeds : Type 0
SomeBuildOverStoreSucceeds = (film : Bool) (hash : Alg → List ℕ → List ℕ) (said : Question → Verdict) → GivesDigests hash → ((q : Question) → said q ≡ Approved)
    → (media : List ℕ) × (definition : List ℕ) × (message : List ℕ) × (b : Built) × (is_bmff media ≡ film)
    × ((start : ℕ) × (len : ℕ) × (old : Tree) × IsMediaStage media (Ok (stored start len old)))
    × HasTextsIn definition × IsEmbedded hash said media definition message (Ok b)
