-- What a file meets that a build comes to whose new store collects from two files, and when it comes to one.
use Rattle.std.specs.Prelude.{◌≡◌, ◌⊎◌, ℕ, ◌^◌, ◌<◌, Bool, List, [], ◌∷◌, All, Contains}
use Rattle.std.specs.List.{AllByRecursion}
use Rattle.std.specs.declared.option.Option.{Option}
use Rattle.std.specs.declared.option.Option.TheVariants.{Some, None}
use Rattle.std.specs.declared.result.Result.TheVariants.{Ok, Err}
use Rattle.c2_base.specs.declared.values.Question.{Question}
use Rattle.c2_base.specs.declared.values.Range.{Range}
use Rattle.c2_spec.specs.C2pa.Sign1.{SignParts, SpellsMessage}
use Rattle.c2_spec.specs.Jumbf.Tree.{Tree}
use Rattle.c2_spec.specs.Located.{Opening, absent, here, refused}
use Rattle.c2_spec.specs.declared.digest.Alg.{Alg}
use Rattle.c2_spec.specs.declared.panel.Verdict.{Verdict}
use Rattle.c2_spec.specs.declared.panel.Verdict.TheVariants.{Approved}
use Rattle.c2_spec.specs.declared.reason.Reason.{Reason}
use Rattle.c2_rules.specs.CheckList.{AreApproved}
use Rattle.c2_rules.specs.Opened.{IsOpened}
use Rattle.c2_rules.specs.Validated.{AreQuestions, IsAnswer}
use Rattle.c2_rules.specs.declared.answer.Answer.TheVariants as answers
use Rattle.c2_rules.specs.declared.answer.Summary.{Summary}
use Rattle.c2_definition.specs.DefinitionFile.{IsDefinition}
use Rattle.c2_definition.specs.declared.types.Definition.{Definition}
use Rattle.c2_definition.specs.declared.types.DefinitionField.{DefinitionField}
use Rattle.c2_new_signature.specs.Message.{IsAccepted, IsRefused}
use Rattle.c2_new_signature.specs.declared.error.SignaturePart.{SignaturePart}
use Rattle.c2_new_file_spec.specs.Fresh.{GivesDigests}
use Rattle.c2_new_file_spec.specs.Store.{range_at}
use Rattle.c2_new_file_spec.specs.Written.{HasTexts}
use Rattle.c2_new_file_spec.specs.Places.{Place, place_start, range_len}
use Rattle.c2_new_content_spec.specs.Kept.{KeepsBytes}
use Rattle.c2_collect_spec.specs.Order.{FilePair, HasStore, IsCollectedFile, IsFilePair, IsMediaFile, IsOtherFile, MediaFile, OtherFile}
use Rattle.c2_collect_spec.specs.Order.{joined_refusals, other_refusals, parent_refusals, reserve_refusals}
use Rattle.c2_collect_spec.specs.Outcomes.{CollectGround, HasCheck, IsCollectMade, IsCollectPlanned, IsGroundStage, NewFile, ground_refusals}
use Rattle.c2_collect_spec.specs.Whole.{MeetsCollected, pair_questions}

-- If a file is a definition, its texts are UTF-8 and shorter than 2^64 bytes. No definition says so of a JSON file: a program sees it
-- of the texts that it holds.
abbrev pub HasTextsIn : List ℕ → Type 0
HasTextsIn file = (d : Definition) → IsDefinition file (Ok d) → HasTexts d

-- a question is one that this file asks
abbrev pub IsAskedBy : List ℕ → Question → Type 0
IsAskedBy file q = (qs : List Question) × AreQuestions file qs × Contains qs q

-- the embedded range of a file that is opened so: that of its store, where it has one
abbrev pub embedded_range : Opening Tree → Option Range
embedded_range (refused reason number) = None
embedded_range absent = None
embedded_range (here start len t) = Some (range_at start len)

-- The file is that of the definition's new store, which collects from both files as they are read, with the signed message padded to the
-- bytes that the definition reserves. It meets what `MeetsCollected` says, with its new store in the range that is told. The first
-- question is over the bytes that a plan comes to. Each other question is one of the media file or of the other, and the judges of the
-- build approve it. Less the new range, and less the media's range where that was freed, the file is the media less that range: all other
-- bytes of the media stay, in order. The check of the file answers that it is valid, where judges approve each of its questions.
pub record CollectedMeets (hash : Alg → List ℕ → List ℕ) (said : Question → Verdict) (media definition message other : List ℕ) (b : NewFile) : Type 0 where
  pub new : Definition
  pub defined : IsDefinition definition (Ok new)
  pub parts : SignParts
  pub spelled : SpellsMessage message parts
  pub pair : FilePair
  pub read : IsFilePair hash said media other pair
  pub place : Place
  pub built : IsCollectedFile hash new pair parts place b.file
  pub meets : MeetsCollected hash new built.content built.message pair place b.file
  pub start : b.start ≡ place_start place
  pub len : b.len ≡ meets.len
  pub signed : IsCollectPlanned hash said media definition other (Ok meets.question.tbs)
  pub asked : AllByRecursion (λ (q : Question). IsAskedBy media q ⊎ IsAskedBy other q) (pair_questions pair)
  pub approved : AreApproved said (pair_questions pair)
  pub kept : KeepsBytes media (embedded_range read.opened) b.file (range_at b.start b.len)
  pub accepted : (others : Question → Verdict) → AreApproved others (meets.question ∷ pair_questions pair)
      → (s : Summary) × IsAnswer hash others b.file (answers.Valid s)

-- What a build comes to meets this.
abbrev pub MadeCollectedMeets : Type 0
MadeCollectedMeets = (hash : Alg → List ℕ → List ℕ) (said : Question → Verdict) (media definition message other : List ℕ) (b : NewFile)
    → GivesDigests hash → HasTextsIn definition → IsCollectMade hash said media definition message other (Ok b)
    → CollectedMeets hash said media definition message other b

-- ---- no refusal, then a new file

-- No refusal of a plan has its condition: neither the media nor the definition is refused, no rule fails of the media's store, the other
-- file is valid, and nothing is refused of both stores together nor of a new file over them. The order of these doesn't matter.
pub record IsCollectPlanUnrefused (hash : Alg → List ℕ → List ℕ) (said : Question → Verdict) (media definition other : List ℕ) : Type 0 where
  pub media_passes : (reason : Reason) (number : ℕ) → IsOpened media (refused reason number) → ⊥
  pub definition_passes : (field : DefinitionField) → IsDefinition definition (Err field) → ⊥
  pub parent_passes : (what : Opening Tree) (m : MediaFile) → IsOpened media what → IsMediaFile hash said media what m → parent_refusals m ≡ []
  pub other_passes : (found : Opening Tree) (o : OtherFile) → IsOpened other found → IsOtherFile hash said other found o → other_refusals o.answer ≡ []
  pub joined_passes : (d : Definition) (p : FilePair) → IsDefinition definition (Ok d) → IsFilePair hash said media other p → joined_refusals d p ≡ []
  pub file_passes : (d : Definition) (g : CollectGround) → IsDefinition definition (Ok d) → IsFilePair hash said media other g.pair
      → IsGroundStage d g.pair (Ok g) → ground_refusals d g ≡ []

-- No refusal of a build has its condition: none of a plan, the message isn't refused, and it fits into what the definition reserves.
pub record IsCollectUnrefused (hash : Alg → List ℕ → List ℕ) (said : Question → Verdict) (media definition message other : List ℕ) : Type 0 where
  pub plan : IsCollectPlanUnrefused hash said media definition other
  pub message_passes : (d : Definition) (test : SignaturePart) → IsDefinition definition (Ok d) → IsRefused d.protected message test → ⊥
  pub reserve_passes : (d : Definition) (p : SignParts) → IsDefinition definition (Ok d) → SpellsMessage message p → reserve_refusals d p ≡ []

-- A plan over two files whose checks answer something comes to bytes to be signed where no refusal has its condition.
abbrev pub UnrefusedIsCollectPlanned : Type 0
UnrefusedIsCollectPlanned = (hash : Alg → List ℕ → List ℕ) (said : Question → Verdict) (media definition other : List ℕ)
    → HasCheck hash said media → HasCheck hash said other → IsCollectPlanUnrefused hash said media definition other
    → (tbs : List ℕ) × IsCollectPlanned hash said media definition other (Ok tbs)

-- A build over two files whose checks answer something comes to a new file where no refusal has its condition.
abbrev pub UnrefusedIsCollectMade : Type 0
UnrefusedIsCollectMade = (hash : Alg → List ℕ → List ℕ) (said : Question → Verdict) (media definition message other : List ℕ)
    → HasCheck hash said media → HasCheck hash said other → All (λ b. b < 2 ^ 8) message → IsCollectUnrefused hash said media definition message other
    → (b : NewFile) × IsCollectMade hash said media definition message other (Ok b)

-- ---- some build succeeds

-- A file of a new store that collects from two files is what a build comes to over files that are read so, with the range of that store.
abbrev pub CollectedIsMade : Type 0
CollectedIsMade = (hash : Alg → List ℕ → List ℕ) (said : Question → Verdict) (media definition message other : List ℕ)
    (d : Definition) (pair : FilePair) (parts : SignParts) (p : Place) (file : List ℕ)
    → IsDefinition definition (Ok d) → IsAccepted d.protected message → SpellsMessage message parts → IsFilePair hash said media other pair
    → (b : IsCollectedFile hash d pair parts p file)
    → IsCollectMade hash said media definition message other
    (Ok (record { file = file; start = place_start p; len = range_len p b.content d.reserve }))

-- Some build succeeds whose new store collects, whatever the hash, where it gives digests and judges approve each question: of a media file
-- without a store, and of a media file with one.
abbrev pub SomeCollectSucceeds : Type 0
SomeCollectSucceeds = (stored : Bool) (hash : Alg → List ℕ → List ℕ) (said : Question → Verdict)
    → GivesDigests hash → ((q : Question) → said q ≡ Approved)
    → (media : List ℕ) × (definition : List ℕ) × (message : List ℕ) × (other : List ℕ) × (b : NewFile) × HasStore stored media
    × HasTextsIn definition × IsCollectMade hash said media definition message other (Ok b)
