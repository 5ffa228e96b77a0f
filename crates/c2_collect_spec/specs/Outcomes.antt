-- What the build of a new store that collects from two files comes to over its inputs: the bytes that are to be signed, the new file, or
-- what is refused first, in the order that `Order` tells; and what judges are asked on the way. No input is looked at before all of those
-- before it are read and not refused: the media file, the definition file, the signed message, and then the other file.
use Rattle.std.specs.Prelude.{◌≡◌, ℕ, ◌^◌, ◌<◌, List, ◌++◌, All, length}
use Rattle.std.specs.declared.option.Option.{Option}
use Rattle.std.specs.declared.option.Option.TheVariants.{Some}
use Rattle.std.specs.declared.result.Result.{Result}
use Rattle.std.specs.declared.result.Result.TheVariants.{Ok, Err}
use Rattle.c2_lemmas.specs.Stages.{AsksThen, Then, Unless}
use Rattle.c2_base.specs.declared.values.Question.{Question}
use Rattle.c2_spec.specs.C2pa.Sign1.{SignParts}
use Rattle.c2_spec.specs.Jumbf.Tree.{Tree, tree_bytes}
use Rattle.c2_spec.specs.Located.{Opening, absent, here, refused}
use Rattle.c2_spec.specs.declared.digest.Alg.{Alg}
use Rattle.c2_spec.specs.declared.panel.Verdict.{Verdict}
use Rattle.c2_rules.specs.Chains.{is_reached}
use Rattle.c2_rules.specs.CheckList.{check_asks}
use Rattle.c2_rules.specs.Opened.{IsOpened}
use Rattle.c2_rules.specs.Validated.{CheckAsks, IsAnswer, OpenedAsks}
use Rattle.c2_rules.specs.declared.answer.Answer.{Answer}
use Rattle.c2_definition.specs.DefinitionFile.{IsDefinition}
use Rattle.c2_definition.specs.declared.types.Definition.{Definition}
use Rattle.c2_definition.specs.declared.types.DefinitionField.{DefinitionField}
use Rattle.c2_new_signature.specs.Message.{IsMessageRead}
use Rattle.c2_new_signature.specs.Signed.{IsSigned}
use Rattle.c2_new_signature.specs.declared.error.SignaturePart.{SignaturePart}
use Rattle.c2_new_file_spec.specs.Manifests.{supers_in}
use Rattle.c2_new_file_spec.specs.Store.{Content, new_alg}
use Rattle.c2_new_file_spec.specs.Places.{IsPlace, Place, place_file, place_start, place_store, put_bytes, range_len}
use Rattle.c2_collect_spec.specs.Collected.{CollectsFrom}
use Rattle.c2_collect_spec.specs.Files.{collected_signed}
use Rattle.c2_collect_spec.specs.Order.{CollectRefusal, FilePair, IsMediaFile, IsOtherFile, MediaFile, OtherFile}
use Rattle.c2_collect_spec.specs.Order.{bad_definition, bad_signature, collected_refusals, joined_refusals, media_refused, other_refusals, parent_refusals, reserve_refusals}
use Rattle.c2_collect_spec.specs.Sides.{IsClash}

-- ---- the inputs

-- what a media file that is opened so is to a build: it is refused, or it stays what it is opened as
abbrev pub media_stage : Opening Tree → Result (Opening Tree) CollectRefusal
media_stage (refused reason number) = Err (media_refused reason number)
media_stage absent = Ok absent
media_stage (here start len t) = Ok (here start len t)

-- this is what the media file is opened as: the tests of the container, of the boxes and of the store come first
abbrev pub IsMediaStage : List ℕ → Result (Opening Tree) CollectRefusal → Type 0
IsMediaStage media r = (what : Opening Tree) × IsOpened media what × (r ≡ media_stage what)

-- what a definition that is read so is to a build
abbrev pub definition_stage : Result Definition DefinitionField → Result Definition CollectRefusal
definition_stage (Ok d) = Ok d
definition_stage (Err field) = Err (bad_definition field)

-- this is the definition that a file is, or what of it is refused first
abbrev pub IsDefinitionStage : List ℕ → Result Definition CollectRefusal → Type 0
IsDefinitionStage file r = (d : Result Definition DefinitionField) × IsDefinition file d × (r ≡ definition_stage d)

-- what a message that is read so is to a build
abbrev pub message_stage : Result SignParts SignaturePart → Result SignParts CollectRefusal
message_stage (Ok p) = Ok p
message_stage (Err test) = Err (bad_signature test)

-- this is the message, where the definition has this protected header, or what of it is refused first
abbrev pub IsMessageStage : List ℕ → List ℕ → Result SignParts CollectRefusal → Type 0
IsMessageStage protected bytes r = (m : Result SignParts SignaturePart) × IsMessageRead protected bytes m × (r ≡ message_stage m)

-- ---- both files

-- this is what a media file that is opened so is to the new store, where judges say this, or the rule that fails of its store
abbrev pub IsParentStage : (Alg → List ℕ → List ℕ) → (Question → Verdict) → List ℕ → Opening Tree → Result MediaFile CollectRefusal → Type 0
IsParentStage hash said media what r =
    (m : MediaFile) × IsMediaFile hash said media what m × Unless (parent_refusals m) (λ s. s ≡ Ok m) r

-- this is what another file is to the new store, where judges say this, or what its check answers, and not that it is valid
abbrev pub IsOtherStage : (Alg → List ℕ → List ℕ) → (Question → Verdict) → List ℕ → Result OtherFile CollectRefusal → Type 0
IsOtherStage hash said other r =
    (found : Opening Tree) × IsOpened other found
    × ((o : OtherFile) × IsOtherFile hash said other found o × Unless (other_refusals o.answer) (λ s. s ≡ Ok o) r)

-- these two files, whose stores clash so
abbrev pub pair_of : MediaFile → OtherFile → Option (List ℕ) → FilePair
pair_of m o clash = record { media = m; other = o; clash = clash }

-- where the stores of two files clash first
abbrev pub IsPairClash : MediaFile → OtherFile → Option (List ℕ) → Type 0
IsPairClash m o clash = IsClash (supers_in m.boxes) (is_reached m.readings) (supers_in o.boxes) (is_reached o.readings) clash

-- these are both files together for a definition, or what is refused first of both stores together
abbrev pub IsJoinedStage : Definition → MediaFile → OtherFile → Result FilePair CollectRefusal → Type 0
IsJoinedStage d m o r =
    (clash : Option (List ℕ)) × IsPairClash m o clash
    × Unless (joined_refusals d (pair_of m o clash)) (λ s. s ≡ Ok (pair_of m o clash)) r

-- these are both files together for a definition, where the media is opened so, or what is refused first: of the media's store, of the
-- other file, and of both stores
abbrev pub IsPairStage : (Alg → List ℕ → List ℕ) → (Question → Verdict) → List ℕ → List ℕ → Opening Tree → Definition → Result FilePair CollectRefusal → Type 0
IsPairStage hash said media other what d =
    Then (IsParentStage hash said media what) (λ m.
    Then (IsOtherStage hash said other) (IsJoinedStage d m))

-- ---- what is built

-- What a new file is built of, beside the definition and the message: both files, what goes into the new store, and where.
pub record CollectGround : Type 0 where
  pub pair : FilePair
  pub content : Content
  pub place : Place

-- this is what a new file is built of, which is never refused: a definition's content over both files, and its place in what is left of
-- the media
abbrev pub IsGroundStage : Definition → FilePair → Result CollectGround CollectRefusal → Type 0
IsGroundStage d p r =
    (c : Content) × CollectsFrom d p.media.boxes p.other.boxes p.media.readings p.other.readings c
    × ((place : Place) × IsPlace p.media.base place × (r ≡ Ok (record { pair = p; content = c; place = place })))

-- what is signed of a definition and of this
abbrev pub ground_signed : (Alg → List ℕ → List ℕ) → Definition → CollectGround → List ℕ
ground_signed hash d g = collected_signed hash d g.content g.pair.media.base g.place

-- A new file, and the range of its store.
pub record NewFile : Type 0 where
  pub file : List ℕ
  pub start : ℕ
  pub len : ℕ

-- the new file with these bytes put in at its place, where the message has so many bytes
abbrev pub new_file : CollectGround → ℕ → List ℕ → NewFile
new_file g reserve bytes = record {
  file = place_file g.pair.media.base g.place bytes;
  start = place_start g.place;
  len = range_len g.place g.content reserve;
}

-- this is put in of the new store of a definition with this message
abbrev pub IsPutIn : (Alg → List ℕ → List ℕ) → Definition → CollectGround → List ℕ → List ℕ → Type 0
IsPutIn hash d g message bytes =
    put_bytes g.place (tree_bytes (place_store (hash (new_alg d)) g.content message g.pair.media.base g.place)) ≡ Some bytes

-- this is the new file with a message of these parts, padded to the bytes that the definition reserves
abbrev pub IsNewFile : (Alg → List ℕ → List ℕ) → Definition → SignParts → CollectGround → Result NewFile CollectRefusal → Type 0
IsNewFile hash d parts g r =
    (message : List ℕ) × IsSigned parts d.reserve message
    × ((bytes : List ℕ) × IsPutIn hash d g message bytes × (r ≡ Ok (new_file g (length message) bytes)))

-- ---- the two calls

-- all that is refused, in order, of a new file of a definition that is built of this
abbrev pub ground_refusals : Definition → CollectGround → List CollectRefusal
ground_refusals d g = collected_refusals d g.pair g.content g.place

-- what a plan comes to where a new file is built of this
abbrev pub IsPlannedOn : (Alg → List ℕ → List ℕ) → Definition → CollectGround → Result (List ℕ) CollectRefusal → Type 0
IsPlannedOn hash d g = Unless (ground_refusals d g) (λ r. r ≡ Ok (ground_signed hash d g))

-- what a plan comes to over both files together
abbrev pub IsPlannedOver : (Alg → List ℕ → List ℕ) → Definition → FilePair → Result (List ℕ) CollectRefusal → Type 0
IsPlannedOver hash d p = Then (IsGroundStage d p) (IsPlannedOn hash d)

-- what a plan comes to over this media file, this definition file and this other file, where judges say this: the bytes to be signed, or
-- what is refused first
abbrev pub IsCollectPlanned : (Alg → List ℕ → List ℕ) → (Question → Verdict) → List ℕ → List ℕ → List ℕ → Result (List ℕ) CollectRefusal → Type 0
IsCollectPlanned hash said media definition other =
    Then (IsMediaStage media) (λ what.
    Then (IsDefinitionStage definition) (λ d.
    Then (IsPairStage hash said media other what d) (IsPlannedOver hash d)))

-- what a build comes to where a new file is built of this, with a message that has these parts
abbrev pub IsMadeOn : (Alg → List ℕ → List ℕ) → Definition → SignParts → CollectGround → Result NewFile CollectRefusal → Type 0
IsMadeOn hash d parts g = Unless (ground_refusals d g ++ reserve_refusals d parts) (IsNewFile hash d parts g)

-- what a build comes to over both files together, with such a message
abbrev pub IsMadeOver : (Alg → List ℕ → List ℕ) → Definition → SignParts → FilePair → Result NewFile CollectRefusal → Type 0
IsMadeOver hash d parts p = Then (IsGroundStage d p) (IsMadeOn hash d parts)

-- What a build comes to over this media file, this definition file, this file of a signed message and this other file, where judges say
-- this: the new file, or what is refused first.
abbrev pub IsCollectMade : (Alg → List ℕ → List ℕ) → (Question → Verdict) → List ℕ → List ℕ → List ℕ → List ℕ → Result NewFile CollectRefusal → Type 0
IsCollectMade hash said media definition message other =
    Then (IsMediaStage media) (λ what.
    Then (IsDefinitionStage definition) (λ d.
    Then (IsMessageStage d.protected message) (λ parts.
    Then (IsPairStage hash said media other what d) (IsMadeOver hash d parts))))

-- ---- what judges are asked

-- What is asked of both files, where the media is opened so: what the check of its store asks, and then, where no rule of that fails, what
-- the check of the other file asks.
pub record PairAsks (hash : Alg → List ℕ → List ℕ) (said : Question → Verdict) (media other : List ℕ) (what : Opening Tree) (qs : List Question) : Type 0 where
  pub of_media : List Question
  pub media_asks : OpenedAsks (check_asks hash said) what of_media
  pub of_other : List Question
  pub other_asks : AsksThen (IsParentStage hash said media what) (λ m. CheckAsks hash said other) of_other
  pub are : qs ≡ of_media ++ of_other

-- what a plan asks over this media file, this definition file and this other file
abbrev pub CollectPlanAsks : (Alg → List ℕ → List ℕ) → (Question → Verdict) → List ℕ → List ℕ → List ℕ → List Question → Type 0
CollectPlanAsks hash said media definition other =
    AsksThen (IsMediaStage media) (λ what.
    AsksThen (IsDefinitionStage definition) (λ d. PairAsks hash said media other what))

-- what a build asks over these and this file of a signed message
abbrev pub CollectAsks : (Alg → List ℕ → List ℕ) → (Question → Verdict) → List ℕ → List ℕ → List ℕ → List ℕ → List Question → Type 0
CollectAsks hash said media definition message other =
    AsksThen (IsMediaStage media) (λ what.
    AsksThen (IsDefinitionStage definition) (λ d.
    AsksThen (IsMessageStage d.protected message) (λ parts. PairAsks hash said media other what)))

-- ---- one outcome

-- a file is opened as one thing
abbrev pub IsOpenedOnce : List ℕ → Type 0
IsOpenedOnce file = (v w : Opening Tree) → IsOpened file v → IsOpened file w → v ≡ w

-- A plan over two files that are opened as one thing each comes to one thing.
abbrev pub OneCollectPlan : Type 0
OneCollectPlan = (hash : Alg → List ℕ → List ℕ) (said : Question → Verdict) (media definition other : List ℕ) (a b : Result (List ℕ) CollectRefusal)
    → IsOpenedOnce media → IsOpenedOnce other → IsCollectPlanned hash said media definition other a → IsCollectPlanned hash said media definition other b
    → a ≡ b

-- A build over two files that are opened as one thing each comes to one thing.
abbrev pub OneCollectMade : Type 0
OneCollectMade = (hash : Alg → List ℕ → List ℕ) (said : Question → Verdict) (media definition message other : List ℕ) (a b : Result NewFile CollectRefusal)
    → IsOpenedOnce media → IsOpenedOnce other → IsCollectMade hash said media definition message other a → IsCollectMade hash said media definition message other b
    → a ≡ b

-- ---- some outcome

-- A file is opened as one thing, and its check answers something, where judges say this.
pub record HasCheck (hash : Alg → List ℕ → List ℕ) (said : Question → Verdict) (file : List ℕ) : Type 0 where
  pub once : IsOpenedOnce file
  pub answer : Answer
  pub is : IsAnswer hash said file answer

-- A plan comes to something over each two files whose checks answer something, and each definition file.
abbrev pub SomeCollectPlan : Type 0
SomeCollectPlan = (hash : Alg → List ℕ → List ℕ) (said : Question → Verdict) (media definition other : List ℕ)
    → HasCheck hash said media → HasCheck hash said other
    → (r : Result (List ℕ) CollectRefusal) × IsCollectPlanned hash said media definition other r

-- A build comes to something over each two files whose checks answer something, each definition file and each message.
abbrev pub SomeCollectMade : Type 0
SomeCollectMade = (hash : Alg → List ℕ → List ℕ) (said : Question → Verdict) (media definition message other : List ℕ)
    → HasCheck hash said media → HasCheck hash said other → All (λ b. b < 2 ^ 8) message
    → (r : Result NewFile CollectRefusal) × IsCollectMade hash said media definition message other r
