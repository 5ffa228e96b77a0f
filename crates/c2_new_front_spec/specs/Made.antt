-- What a file meets that a build in front of a BMFF file comes to, and when it comes to one.
use Rattle.std.specs.Prelude.{◌≡◌, ◌⊎◌, ℕ, ◌^◌, ◌<◌, ◌≤◌, List, [], ◌∷◌, length, All, Contains, get_or}
use Rattle.std.specs.declared.result.Result.TheVariants.{Ok, Err}
use Rattle.c2_base.specs.declared.values.Question.{Question}
use Rattle.c2_spec.specs.Bmff.Boxes.{Box, HasRoots}
use Rattle.c2_spec.specs.C2pa.Sign1.{SignParts, SpellsMessage}
use Rattle.c2_spec.specs.Jumbf.Tree.{Tree}
use Rattle.c2_spec.specs.Located.{Opening, refused}
use Rattle.c2_spec.specs.PutIn.{taken_out}
use Rattle.c2_spec.specs.declared.digest.Alg.{Alg}
use Rattle.c2_spec.specs.declared.reason.Reason.{Reason}
use Rattle.c2_rules.specs.Opened.{IsOpened}
use Rattle.c2_bmff_chunks.specs.Fields.{Covers, all_fields, number_at}
use Rattle.c2_bmff_chunks.specs.Laws.{AreBytes}
use Rattle.c2_bmff_chunks.specs.declared.table.Field.{Field}
use Rattle.c2_definition.specs.DefinitionFile.{IsDefinition}
use Rattle.c2_definition.specs.declared.types.Definition.{Definition}
use Rattle.c2_definition.specs.declared.types.DefinitionField.{DefinitionField}
use Rattle.c2_new_signature.specs.Message.{IsRefused}
use Rattle.c2_new_signature.specs.Signed.{IsSigned}
use Rattle.c2_new_signature.specs.declared.error.SignaturePart.{SignaturePart}
use Rattle.c2_new_file_spec.specs.Fresh.{GivesDigests, MeetsTheRules, fresh_content}
use Rattle.c2_new_file_spec.specs.Store.{new_alg}
use Rattle.c2_new_file_spec.specs.Written.{HasTexts}
use Rattle.c2_new_front_spec.specs.Fronts.{IsFrontBuilt, front_store, moved_media, tables_of}
use Rattle.c2_new_front_spec.specs.Meeting.{ChunkIsThere, place_in_front}
use Rattle.c2_new_front_spec.specs.Order.{FrontRefusal, bmff_refusals, plan_refusals, reserve_refusals}
use Rattle.c2_new_front_spec.specs.Outcomes.{IsFrontMade, IsFrontPlanned, NewFile}

-- ---- the media data

-- Each field of the media's chunk tables whose number is a place of the media from the new store's on tells where the same byte is in the
-- new file.
abbrev pub ChunksAreThere : List ℕ → List Box → NewFile → Type 0
ChunksAreThere media roots b =
    (f : Field) (v : ℕ) → Contains (all_fields (tables_of media roots)) f → v ≡ number_at f.wide media f.at
    → b.start ≤ v → v < length media → ChunkIsThere media b.file b.len (tables_of media roots) f v

-- Each byte of the media that lies in no moved field is in the new file, in the order of the media.
abbrev pub BytesAreThere : List ℕ → List Box → NewFile → Type 0
BytesAreThere media roots b =
    (i : ℕ) → i < length media
    → ((f : Field) → Contains (all_fields (tables_of media roots)) f → Covers f i → number_at f.wide media f.at < b.start)
    → get_or b.file (place_in_front b.start b.len i) 0 ≡ get_or media i 0

-- ---- the new file

-- If a file is a definition, its texts are UTF-8 and shorter than 2^64 bytes. No definition says so of a JSON file: a program sees it
-- of the texts that it holds.
abbrev pub HasTextsIn : List ℕ → Type 0
HasTextsIn file = (d : Definition) → IsDefinition file (Ok d) → HasTexts d

-- The file is the media with the new store of the definition right after its first root box, and with the places in its chunk tables moved.
-- Its message is the signed one, whose protected header is the definition's, padded to the bytes that the definition reserves. The file has its store in the new range, meets every
-- rule but the verdict on its message, and asks one question, over the bytes that a plan gives. Less the new range it is the media with
-- moved places: each byte of the media outside its moved fields is there, and each field tells where the same byte is.
pub record FrontMeets (hash : Alg → List ℕ → List ℕ) (media definition message : List ℕ) (b : NewFile) : Type 0 where
  pub new : Definition
  pub defined : IsDefinition definition (Ok new)
  pub parts : SignParts
  pub spelled : SpellsMessage message parts
  pub own : parts.protected ≡ new.protected
  pub padded : List ℕ
  pub filled : IsSigned parts new.reserve padded
  pub built : IsFrontBuilt (hash (new_alg new)) (fresh_content new) padded media b.file b.start b.len
  pub roots : List Box
  pub has_roots : HasRoots media roots
  pub store : Tree
  pub is : store ≡ front_store (hash (new_alg new)) (fresh_content new) padded media roots
  pub question : Question
  pub meets : MeetsTheRules hash b.file b.start b.len store (question ∷ [])
  pub signed : IsFrontPlanned hash media definition (Ok question.tbs)
  pub base : taken_out b.start b.len b.file ≡ moved_media b.len media roots
  pub bytes : BytesAreThere media roots b
  pub chunks : ChunksAreThere media roots b

-- What a build comes to meets this.
abbrev pub MadeFrontMeets : Type 0
MadeFrontMeets = (hash : Alg → List ℕ → List ℕ) (media definition message : List ℕ) (b : NewFile)
    → GivesDigests hash → HasTextsIn definition → AreBytes media
    → IsFrontMade hash media definition message (Ok b) → FrontMeets hash media definition message b

-- ---- no refusal, then a new file

-- No refusal of a plan has its condition: neither file is refused, and nothing is of what the media is opened as and of its root boxes.
pub record IsPlanUnrefused (media definition : List ℕ) : Type 0 where
  pub media_passes : (reason : Reason) (number : ℕ) → IsOpened media (refused reason number) → ⊥
  pub definition_passes : (field : DefinitionField) → IsDefinition definition (Err field) → ⊥
  pub bmff_passes : (what : Opening Tree) → IsOpened media what → bmff_refusals media what ≡ []
  pub plan_passes : (d : Definition) (roots : List Box) → IsDefinition definition (Ok d) → HasRoots media roots
      → plan_refusals media roots d ≡ []

-- No refusal of a build has its condition: none of a plan, the message isn't refused, and it fits into what the definition reserves.
pub record IsFrontUnrefused (media definition message : List ℕ) : Type 0 where
  pub plan : IsPlanUnrefused media definition
  pub message_passes : (d : Definition) (test : SignaturePart) → IsDefinition definition (Ok d) → IsRefused d.protected message test → ⊥
  pub reserve_passes : (d : Definition) (p : SignParts) → IsDefinition definition (Ok d) → SpellsMessage message p
      → reserve_refusals d p ≡ []

-- a plan comes to bytes to be signed where no refusal has its condition
abbrev pub UnrefusedIsPlanned : Type 0
UnrefusedIsPlanned = (hash : Alg → List ℕ → List ℕ) (media definition : List ℕ) (what : Opening Tree) → IsOpened media what
    → IsPlanUnrefused media definition → (bytes : List ℕ) × IsFrontPlanned hash media definition (Ok bytes)

-- a build comes to a new file where no refusal has its condition
abbrev pub UnrefusedIsMade : Type 0
UnrefusedIsMade = (hash : Alg → List ℕ → List ℕ) (media definition message : List ℕ) (what : Opening Tree) → IsOpened media what
    → All (λ b. b < 2 ^ 8) message → IsFrontUnrefused media definition message
    → (b : NewFile) × IsFrontMade hash media definition message (Ok b)

-- ---- the chunks are there, or a refusal

-- A build comes to one refusal by its name, or to a new file, in which each field of the media's chunk tables whose number is a place of the
-- media from the new store's on tells where the same byte is.
abbrev pub ChunksAreThereOrRefused : Type 0
ChunksAreThereOrRefused = (hash : Alg → List ℕ → List ℕ) (media definition message : List ℕ) (what : Opening Tree) → IsOpened media what
    → GivesDigests hash → HasTextsIn definition → AreBytes media → All (λ b. b < 2 ^ 8) message
    → ((refusal : FrontRefusal) × IsFrontMade hash media definition message (Err refusal))
    ⊎ ((b : NewFile) × IsFrontMade hash media definition message (Ok b)
    × ((roots : List Box) × HasRoots media roots × ChunksAreThere media roots b))
