-- What the inputs of a build come to, one stage after the other: the media file, the definition, the signed message, what is built over, and
-- the place in it. Known inputs come to one thing: the order of the tests is this project's own choice.
use Rattle.std.specs.Prelude.{◌≡◌, ◌⊎◌, ℕ, ◌+◌, List, [], length}
use Rattle.std.specs.declared.option.Option.{Option}
use Rattle.std.specs.declared.option.Option.TheVariants.{Some}
use Rattle.std.specs.declared.result.Result.{Result}
use Rattle.std.specs.declared.result.Result.TheVariants.{Ok, Err}
use Rattle.std.specs.Option.{ForSome}
use Rattle.c2_lemmas.specs.Stages.{UnlessSome}
use Rattle.c2_base.specs.Source.{IsKnownWhereDue}
use Rattle.c2_base.specs.declared.values.Question.{Question}
use Rattle.c2_spec.specs.C2pa.Sign1.{SignParts}
use Rattle.c2_spec.specs.Jumbf.Tree.{Tree}
use Rattle.c2_spec.specs.Located.{Opening, refused, absent, here}
use Rattle.c2_spec.specs.declared.digest.Alg.{Alg}
use Rattle.c2_spec.specs.declared.panel.Verdict.{Verdict}
use Rattle.c2_rules.specs.CheckList.{StoreReading, check_list}
use Rattle.c2_rules.specs.Opened.{IsOpened}
use Rattle.c2_rules.specs.Readings.{Reading}
use Rattle.c2_rules.specs.Tests.{first_failing}
use Rattle.c2_rules.specs.Validated.{CheckAsks, IsFileReading}
use Rattle.c2_definition.specs.DefinitionFile.{IsDefinition}
use Rattle.c2_definition.specs.declared.types.Definition.{Definition}
use Rattle.c2_definition.specs.declared.types.DefinitionField.{DefinitionField}
use Rattle.c2_new_signature.specs.Message.{IsMessageRead}
use Rattle.c2_new_signature.specs.declared.error.SignaturePart.{SignaturePart}
use Rattle.c2_new_file_spec.specs.Store.{Content}
use Rattle.c2_new_file_spec.specs.Fresh.{fresh_content}
use Rattle.c2_new_file_spec.specs.Written.{HasTexts}
use Rattle.c2_new_file_spec.specs.Parents.{IsContentOver}
use Rattle.c2_new_file_spec.specs.Bases.{IsLeft}
use Rattle.c2_new_file_spec.specs.Places.{IsPlace, Place}
use Rattle.c2_build_refusals.specs.Refusals.{Ground, first_refusal, older_tests, redaction_tests}
use Rattle.c2_build_refusals.specs.declared.error.BuildError.{BuildError}
use Rattle.c2_build_refusals.specs.declared.error.BuildError.TheVariants.{MediaRefused, BadDefinition, BadSignature}

-- ---- the inputs

-- What a media file that isn't refused is to a build: a file without a store, or one with this store in this range.
pub data MediaKind : Type 0 where
  fresh : MediaKind
  stored : ℕ → ℕ → Tree → MediaKind

-- what a media file that is opened so is to a build
abbrev pub media_stage : Opening Tree → Result MediaKind BuildError
media_stage (refused reason number) = Err (MediaRefused reason number)
media_stage absent = Ok fresh
media_stage (here start len t) = Ok (stored start len t)

-- this is what the media file is: the tests of the container, of the boxes and of the store come first
abbrev pub IsMediaStage : List ℕ → Result MediaKind BuildError → Type 0
IsMediaStage media r = (what : Opening Tree) × IsOpened media what × (r ≡ media_stage what)

-- the media file is refused
abbrev pub IsMediaRefused : List ℕ → Type 0
IsMediaRefused media = (e : BuildError) × IsMediaStage media (Err e)

-- nothing of the media file is asked of judges: it is refused, or has no store
abbrev pub HasNothingToAsk : List ℕ → Type 0
HasNothingToAsk media = IsMediaRefused media ⊎ IsMediaStage media (Ok fresh)

-- what a definition that is read so is to a build
abbrev pub definition_stage : Result Definition DefinitionField → Result Definition BuildError
definition_stage (Ok d) = Ok d
definition_stage (Err field) = Err (BadDefinition field)

-- this is the definition that a file is, or what of it is refused first
abbrev pub IsDefinitionStage : List ℕ → Result Definition BuildError → Type 0
IsDefinitionStage file r = (d : Result Definition DefinitionField) × IsDefinition file d × (r ≡ definition_stage d)

-- the definition file is refused
abbrev pub IsDefinitionRefused : List ℕ → Type 0
IsDefinitionRefused file = (e : BuildError) × IsDefinitionStage file (Err e)

-- If a file is a definition, its texts are UTF-8 and shorter than 2^64 bytes. No definition says so of a JSON file: a program sees it
-- of the texts that it holds.
abbrev pub HasTextsIn : List ℕ → Type 0
HasTextsIn file = (d : Definition) → IsDefinition file (Ok d) → HasTexts d

-- what a message that is read so is to a build
abbrev pub message_stage : Result SignParts SignaturePart → Result SignParts BuildError
message_stage (Ok p) = Ok p
message_stage (Err test) = Err (BadSignature test)

-- this is the message, where the definition has this protected header, or what of it is refused first
abbrev pub IsMessageStage : List ℕ → List ℕ → Result SignParts BuildError → Type 0
IsMessageStage protected bytes r = (m : Result SignParts SignaturePart) × IsMessageRead protected bytes m × (r ≡ message_stage m)

-- the message is refused, whose protected header isn't that of this definition file, or which isn't one
abbrev pub IsMessageRefused : List ℕ → List ℕ → Type 0
IsMessageRefused definition message =
    (d : Definition) × IsDefinitionStage definition (Ok d) × ((e : BuildError) × IsMessageStage d.protected message (Err e))

-- ---- the inputs that are due

-- these are the bytes of the definition file, which isn't due where the media is refused
abbrev pub IsDefinitionTold : List ℕ → Option (List ℕ) → List ℕ → Type 0
IsDefinitionTold media known bytes = IsKnownWhereDue known (IsMediaRefused media) bytes

-- these are the bytes of the message, which isn't due where the media is refused or the definition is
abbrev pub IsMessageTold : List ℕ → List ℕ → Option (List ℕ) → List ℕ → Type 0
IsMessageTold media definition known bytes = IsKnownWhereDue known (IsMediaRefused media ⊎ IsDefinitionRefused definition) bytes

-- these bytes are known of a source, and this holds of them
abbrev pub IsToldOf : Option (List ℕ) → (List ℕ → Type 0) → Type 0
IsToldOf known Is = (bytes : List ℕ) × (known ≡ Some bytes) × Is bytes

-- the bytes of the definition file and of the message tell that the message is refused
abbrev pub IsToldRefused : Option (List ℕ) → Option (List ℕ) → Type 0
IsToldRefused definition message = IsToldOf definition (λ bytes. IsToldOf message (IsMessageRefused bytes))

-- What isn't due is left as it was: the definition file where the media is refused, and the message where either of them is.
pub record LeavesUndue {D M : Type 0} (media definition : Option (List ℕ)) (d d' : D) (m m' : M) : Type 0 where
  pub definition_unread : ForSome media (λ file. IsMediaRefused file → d' ≡ d)
  pub message_unread_first : ForSome media (λ file. IsMediaRefused file → m' ≡ m)
  pub message_unread : ForSome definition (λ bytes. IsDefinitionRefused bytes → m' ≡ m)

-- ---- the older store

-- what is built over a media file without a store: the file, with nothing carried
abbrev pub fresh_ground : List ℕ → Definition → Ground
fresh_ground media d = record { base = media; content = fresh_content d; manifests = 1 }

-- what is built over a media file with this store in this range: what is left of the file. The boxes of the store are carried, less
-- what the definition redacts
abbrev pub IsGroundOver : List ℕ → Definition → ℕ → ℕ → Tree → List Reading → Result Ground BuildError → Type 0
IsGroundOver media d start len t rs r =
    (c : Content) × IsContentOver d t c
    × ((base : List ℕ) × IsLeft media start len base
    × (r ≡ Ok (record { base = base; content = c; manifests = length rs + 1 })))

-- What is built over a media file of this kind, where judges say this; or what refuses it: a rule of its store's check fails; a
-- manifest has the new label; or a redaction can't be made.
abbrev pub IsGroundStage : (Alg → List ℕ → List ℕ) → (Question → Verdict) → List ℕ → Definition → MediaKind
    → Result Ground BuildError → Type 0
IsGroundStage hash said media d fresh r =
    UnlessSome (first_refusal (redaction_tests d [])) (λ r. r ≡ Ok (fresh_ground media d)) r
IsGroundStage hash said media d (stored start len t) r =
    (s : StoreReading) × IsFileReading media t s
    × UnlessSome (first_refusal (older_tests d s.readings (first_failing (check_list hash said s))))
    (IsGroundOver media d start len t s.readings) r

-- ---- the place

-- this is where the new store goes in a media file without one
abbrev pub IsPlaceStage : List ℕ → Result Place BuildError → Type 0
IsPlaceStage base r = (p : Place) × IsPlace base p × (r ≡ Ok p)

-- ---- what is asked

-- what is asked of judges over a media file of this kind: of one with a store, what its check asks
abbrev pub KindAsks : (Alg → List ℕ → List ℕ) → (Question → Verdict) → List ℕ → MediaKind → List Question → Type 0
KindAsks hash said media fresh qs = qs ≡ []
KindAsks hash said media (stored start len t) qs = CheckAsks hash said media qs
