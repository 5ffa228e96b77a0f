-- What the build of a new store in front of a BMFF file comes to over its inputs: the bytes that are to be signed, the new file, or what is
-- refused first. The order of the tests is this project's own choice.
use Rattle.std.specs.Prelude.{◌≡◌, ℕ, ◌^◌, ◌<◌, List, length, All}
use Rattle.std.specs.declared.result.Result.{Result}
use Rattle.std.specs.declared.result.Result.TheVariants.{Ok, Err}
use Rattle.c2_lemmas.specs.Stages.{Then, Unless}
use Rattle.c2_spec.specs.Bmff.Boxes.{Box, HasRoots}
use Rattle.c2_spec.specs.C2pa.Sign1.{SignParts, sig_structure}
use Rattle.c2_spec.specs.Cbor.Deterministic.{deterministic}
use Rattle.c2_spec.specs.Jumbf.Tree.{Tree}
use Rattle.c2_spec.specs.Located.{Opening, refused, absent, here}
use Rattle.c2_spec.specs.declared.digest.Alg.{Alg}
use Rattle.c2_rules.specs.Opened.{IsOpened}
use Rattle.c2_definition.specs.DefinitionFile.{IsDefinition}
use Rattle.c2_definition.specs.declared.types.Definition.{Definition}
use Rattle.c2_definition.specs.declared.types.DefinitionField.{DefinitionField}
use Rattle.c2_new_signature.specs.Message.{IsMessageRead}
use Rattle.c2_new_signature.specs.Signed.{IsSigned}
use Rattle.c2_new_signature.specs.declared.error.SignaturePart.{SignaturePart}
use Rattle.c2_new_file_spec.specs.Fresh.{fresh_content}
use Rattle.c2_new_file_spec.specs.Store.{new_alg, new_claim}
use Rattle.c2_new_file_spec.specs.Films.{new_bmff_binding, bmff_len}
use Rattle.c2_new_front_spec.specs.Fronts.{front_covered, front_file}
use Rattle.c2_new_front_spec.specs.InFront.{front_place}
use Rattle.c2_new_front_spec.specs.Order.{FrontRefusal, bad_definition, bad_signature, bmff_refusals, front_refusals, media_refused, plan_refusals}

-- ---- the inputs

-- what a media file that is opened so is to a build: it is refused, or it stays what it is opened as
abbrev pub media_stage : Opening Tree → Result (Opening Tree) FrontRefusal
media_stage (refused reason number) = Err (media_refused reason number)
media_stage absent = Ok absent
media_stage (here start len t) = Ok (here start len t)

-- this is what the media file is opened as: the tests of the container, of the boxes and of the store come first
abbrev pub IsMediaStage : List ℕ → Result (Opening Tree) FrontRefusal → Type 0
IsMediaStage media r = (what : Opening Tree) × IsOpened media what × (r ≡ media_stage what)

-- what a definition that is read so is to a build
abbrev pub definition_stage : Result Definition DefinitionField → Result Definition FrontRefusal
definition_stage (Ok d) = Ok d
definition_stage (Err field) = Err (bad_definition field)

-- this is the definition that a file is, or what of it is refused first
abbrev pub IsDefinitionStage : List ℕ → Result Definition FrontRefusal → Type 0
IsDefinitionStage file r = (d : Result Definition DefinitionField) × IsDefinition file d × (r ≡ definition_stage d)

-- what a message that is read so is to a build
abbrev pub message_stage : Result SignParts SignaturePart → Result SignParts FrontRefusal
message_stage (Ok p) = Ok p
message_stage (Err test) = Err (bad_signature test)

-- this is the message, where the definition has this protected header, or what of it is refused first
abbrev pub IsMessageStage : List ℕ → List ℕ → Result SignParts FrontRefusal → Type 0
IsMessageStage protected bytes r = (m : Result SignParts SignaturePart) × IsMessageRead protected bytes m × (r ≡ message_stage m)

-- these are the root boxes of a media file that is opened so, or what refuses it before they are looked at
abbrev pub IsBmffStage : List ℕ → Opening Tree → Result (List Box) FrontRefusal → Type 0
IsBmffStage media what = Unless (bmff_refusals media what) (λ r. (roots : List Box) × HasRoots media roots × (r ≡ Ok roots))

-- ---- what is built

-- what is signed (RFC 9052, section 4.4): the definition's protected header and the new claim, which binds what the exclusions leave of
-- the new file
abbrev pub front_signed : (Alg → List ℕ → List ℕ) → List ℕ → List Box → Definition → List ℕ
front_signed hash media roots d =
    deterministic (sig_structure d.protected (new_claim (hash (new_alg d)) (fresh_content d)
    (new_bmff_binding (new_alg d) (hash (new_alg d) (front_covered (bmff_len (fresh_content d) d.reserve) media roots)))))

-- A new file, and the range of its store.
pub record NewFile : Type 0 where
  pub file : List ℕ
  pub start : ℕ
  pub len : ℕ

-- the new file of a media file with these root boxes and a definition, with this message
abbrev pub new_file : (Alg → List ℕ → List ℕ) → List ℕ → List Box → Definition → List ℕ → NewFile
new_file hash media roots d message = record {
  file = front_file (hash (new_alg d)) (fresh_content d) message media roots;
  start = front_place roots;
  len = bmff_len (fresh_content d) (length message);
}

-- this is the new file with a message of these parts, padded to the bytes that the definition reserves
abbrev pub IsNewFile : (Alg → List ℕ → List ℕ) → List ℕ → Definition → SignParts → List Box → Result NewFile FrontRefusal → Type 0
IsNewFile hash media d parts roots r =
    (message : List ℕ) × IsSigned parts d.reserve message × (r ≡ Ok (new_file hash media roots d message))

-- ---- the two calls

-- what a plan comes to over a media file with these root boxes
abbrev pub IsPlannedIn : (Alg → List ℕ → List ℕ) → List ℕ → Definition → List Box → Result (List ℕ) FrontRefusal → Type 0
IsPlannedIn hash media d roots =
    Unless (plan_refusals media roots d) (λ r. r ≡ Ok (front_signed hash media roots d))

-- what a plan comes to over a media file that is opened so, and this definition file
abbrev pub IsPlannedOver : (Alg → List ℕ → List ℕ) → List ℕ → List ℕ → Opening Tree → Result (List ℕ) FrontRefusal → Type 0
IsPlannedOver hash media definition what =
    Then (IsDefinitionStage definition) (λ d. Then (IsBmffStage media what) (IsPlannedIn hash media d))

-- what a plan comes to over this media file and this definition file: the bytes to be signed, or what is refused first
abbrev pub IsFrontPlanned : (Alg → List ℕ → List ℕ) → List ℕ → List ℕ → Result (List ℕ) FrontRefusal → Type 0
IsFrontPlanned hash media definition = Then (IsMediaStage media) (IsPlannedOver hash media definition)

-- what a build comes to over a media file with these root boxes, where the message has these parts
abbrev pub IsMadeIn : (Alg → List ℕ → List ℕ) → List ℕ → Definition → SignParts → List Box → Result NewFile FrontRefusal → Type 0
IsMadeIn hash media d parts roots = Unless (front_refusals media roots d parts) (IsNewFile hash media d parts roots)

-- what a build comes to over a media file that is opened so, this definition file and this file of a signed message
abbrev pub IsMadeOver : (Alg → List ℕ → List ℕ) → List ℕ → List ℕ → List ℕ → Opening Tree → Result NewFile FrontRefusal → Type 0
IsMadeOver hash media definition message what =
    Then (IsDefinitionStage definition) (λ d.
    Then (IsMessageStage d.protected message) (λ parts.
    Then (IsBmffStage media what) (IsMadeIn hash media d parts)))

-- what a build comes to over this media file, this definition file and this file of a signed message: the new file, or what is refused
-- first
abbrev pub IsFrontMade : (Alg → List ℕ → List ℕ) → List ℕ → List ℕ → List ℕ → Result NewFile FrontRefusal → Type 0
IsFrontMade hash media definition message = Then (IsMediaStage media) (IsMadeOver hash media definition message)

-- ---- one outcome

-- the media file is opened as one thing
abbrev pub IsOpenedOnce : List ℕ → Type 0
IsOpenedOnce media = (v w : Opening Tree) → IsOpened media v → IsOpened media w → v ≡ w

-- A plan over a media file that is opened as one thing comes to one thing.
abbrev pub OneFrontPlan : Type 0
OneFrontPlan = (hash : Alg → List ℕ → List ℕ) (media definition : List ℕ) (a b : Result (List ℕ) FrontRefusal)
    → IsOpenedOnce media → IsFrontPlanned hash media definition a → IsFrontPlanned hash media definition b → a ≡ b

-- A build over a media file that is opened as one thing comes to one thing.
abbrev pub OneFrontMade : Type 0
OneFrontMade = (hash : Alg → List ℕ → List ℕ) (media definition message : List ℕ) (a b : Result NewFile FrontRefusal)
    → IsOpenedOnce media → IsFrontMade hash media definition message a → IsFrontMade hash media definition message b → a ≡ b

-- A plan comes to something over each media file that is opened as something, and each definition file.
abbrev pub SomeFrontPlan : Type 0
SomeFrontPlan = (hash : Alg → List ℕ → List ℕ) (media definition : List ℕ) (what : Opening Tree) → IsOpened media what
    → (r : Result (List ℕ) FrontRefusal) × IsFrontPlanned hash media definition r

-- A build comes to something over each media file that is opened as something, each definition file and each message.
abbrev pub SomeFrontMade : Type 0
SomeFrontMade = (hash : Alg → List ℕ → List ℕ) (media definition message : List ℕ) (what : Opening Tree) → IsOpened media what
    → All (λ b. b < 2 ^ 8) message → (r : Result NewFile FrontRefusal) × IsFrontMade hash media definition message r
