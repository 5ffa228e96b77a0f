-- What refuses a build whose new store collects from a media file and from another file: each thing in its order, which is this project's
-- own choice, over both files. And the file that such a build comes to where nothing is refused.
use Rattle.std.specs.Prelude.{◌≡◌, ℕ, ◌+◌, nat_lt, nat_le, Bool, true, false, List, [], ◌∷◌, ◌++◌, is_none, length, option_map, slice_get, if◌then◌else◌}
use Rattle.std.specs.declared.option.Option.{Option}
use Rattle.std.specs.declared.option.Option.TheVariants.{None, Some}
use Rattle.std.specs.Option.{option_to_list}
use Rattle.c2_base.specs.declared.limits.TheConstants.{FILE_LEN_LIMIT, MAX_MANIFESTS, MAX_ROOT_BOXES, MAX_STORE_LEN}
use Rattle.c2_base.specs.declared.values.Question.{Question}
use Rattle.c2_spec.specs.Bmff.Paths.{placed_from}
use Rattle.c2_spec.specs.Bmff.Writing.{open_end}
use Rattle.c2_spec.specs.C2pa.Message.{bare_bytes}
use Rattle.c2_spec.specs.C2pa.Sign1.{SignParts}
use Rattle.c2_spec.specs.Jumbf.Tree.{Tree, Trees, none, tree_bytes}
use Rattle.c2_spec.specs.Located.{Opening, absent, here, refused}
use Rattle.c2_spec.specs.declared.digest.Alg.{Alg}
use Rattle.c2_spec.specs.declared.panel.Verdict.{Verdict}
use Rattle.c2_spec.specs.declared.panel.Verdict.TheVariants.{Approved}
use Rattle.c2_spec.specs.declared.reason.Reason.{Reason}
use Rattle.c2_spec.specs.declared.reason.Reason.TheVariants.{FileTooLarge, TooManyBoxes}
use Rattle.c2_rules.specs.Chains.{is_reached}
use Rattle.c2_rules.specs.CheckList.{StoreReading, check_list, store_answer}
use Rattle.c2_rules.specs.Opened.{IsOpened}
use Rattle.c2_rules.specs.Readings.{Reading}
use Rattle.c2_rules.specs.Tests.{first_failing}
use Rattle.c2_rules.specs.Validated.{IsFileReading}
use Rattle.c2_rules.specs.declared.answer.Answer.{Answer}
use Rattle.c2_rules.specs.declared.answer.Answer.TheVariants as answers
use Rattle.c2_rules.specs.declared.answer.Failing.{Failing}
use Rattle.c2_rules.specs.declared.answer.Summary.{Summary}
use Rattle.c2_chain_spec.specs.Joined.{has_manifest}
use Rattle.c2_chain_spec.specs.Rooted.{is_reached_from}
use Rattle.c2_definition.specs.declared.types.Definition.{Definition}
use Rattle.c2_definition.specs.declared.types.DefinitionField.{DefinitionField}
use Rattle.c2_new_signature.specs.Refusals.{reserve_needed}
use Rattle.c2_new_signature.specs.Signed.{IsPaddable, IsSigned}
use Rattle.c2_new_signature.specs.declared.error.SignaturePart.{SignaturePart}
use Rattle.c2_new_file_spec.specs.Fresh.{GivesDigests}
use Rattle.c2_new_file_spec.specs.Manifests.{supers_in}
use Rattle.c2_new_file_spec.specs.Store.{Content, new_alg}
use Rattle.c2_new_file_spec.specs.Written.{CanBeWritten}
use Rattle.c2_new_file_spec.specs.Redacting.{boxes_in}
use Rattle.c2_new_file_spec.specs.declared.refused.RefusedRedaction.{RefusedRedaction}
use Rattle.c2_new_file_spec.specs.Bases.{IsLeft}
use Rattle.c2_new_file_spec.specs.Places.{CanPut, IsFreePlace, Place, in_boxes, in_segments, place_file, place_store, put_bytes, range_len, store_len}
use Rattle.c2_collect_spec.specs.Collected.{CanCollect, CollectsFrom, IsCollected, collected_readings, collected_roots}
use Rattle.c2_collect_spec.specs.Refusals.{redaction_refusal_by}
use Rattle.c2_collect_spec.specs.Sides.{IsClash}

-- ---- the two files

-- What a media file is to a new store that collects: the boxes of its store and what they are read as, none where it has no store; the
-- first rule of the check list that fails of it; and what is left of the file without its store.
pub record MediaFile : Type 0 where
  pub boxes : Trees
  pub readings : List Reading
  pub failing : Option Failing
  pub base : List ℕ

-- A media file with this store in this range is this to a new store that collects, where judges say this.
pub record IsMediaWithStore (hash : Alg → List ℕ → List ℕ) (said : Question → Verdict) (file : List ℕ) (start len : ℕ) (t : Tree) (m : MediaFile) : Type 0 where
  pub reading : StoreReading
  pub reads : IsFileReading file t reading
  pub boxes : m.boxes ≡ boxes_in t
  pub readings : m.readings ≡ reading.readings
  pub failing : m.failing ≡ first_failing (check_list hash said reading)
  pub left : IsLeft file start len m.base

-- a media file that is opened so is this to a new store that collects, where judges say this; a refused one is nothing to it
abbrev pub IsMediaFile : (Alg → List ℕ → List ℕ) → (Question → Verdict) → List ℕ → Opening Tree → MediaFile → Type 0
IsMediaFile hash said file (refused reason number) m = ⊥
IsMediaFile hash said file absent m = m ≡ record { boxes = none; readings = []; failing = None; base = file }
IsMediaFile hash said file (here start len t) m = IsMediaWithStore hash said file start len t m

-- What another file is to a new store that collects: what the check of the file answers, the boxes of its store and what they are read
-- as.
pub record OtherFile : Type 0 where
  pub answer : Answer
  pub boxes : Trees
  pub readings : List Reading

-- Another file with this store in this range is this to a new store that collects, where judges say this.
pub record IsOtherWithStore (hash : Alg → List ℕ → List ℕ) (said : Question → Verdict) (file : List ℕ) (start len : ℕ) (t : Tree) (o : OtherFile) : Type 0 where
  pub reading : StoreReading
  pub reads : IsFileReading file t reading
  pub answer : o.answer ≡ store_answer hash said (length file) start len reading
  pub boxes : o.boxes ≡ boxes_in t
  pub readings : o.readings ≡ reading.readings

-- another file that is opened so is this to a new store that collects, where judges say this; it has no boxes where it is refused, or has
-- no store
abbrev pub IsOtherFile : (Alg → List ℕ → List ℕ) → (Question → Verdict) → List ℕ → Opening Tree → OtherFile → Type 0
IsOtherFile hash said file (refused reason number) o = o ≡ record { answer = answers.Refused reason number; boxes = none; readings = [] }
IsOtherFile hash said file absent o = o ≡ record { answer = answers.NoStore; boxes = none; readings = [] }
IsOtherFile hash said file (here start len t) o = IsOtherWithStore hash said file start len t o

-- Two files from which a new store collects: what each is to it, and the label of the manifest at which their stores clash first, where
-- they clash.
pub record FilePair : Type 0 where
  pub media : MediaFile
  pub other : OtherFile
  pub clash : Option (List ℕ)

-- A media file and another file are this pair, where judges say this.
pub record IsFilePair (hash : Alg → List ℕ → List ℕ) (said : Question → Verdict) (media other : List ℕ) (p : FilePair) : Type 0 where
  pub opened : Opening Tree
  pub is_opened : IsOpened media opened
  pub is_media : IsMediaFile hash said media opened p.media
  pub found : Opening Tree
  pub is_found : IsOpened other found
  pub is_other : IsOtherFile hash said other found p.other
  pub is_clash : IsClash (supers_in p.media.boxes) (is_reached p.media.readings) (supers_in p.other.boxes) (is_reached p.other.readings) p.clash

-- what the joined boxes of a pair are read as
abbrev pub pair_readings : FilePair → List Reading
pair_readings p = collected_readings p.media.readings p.other.readings

-- the roots of the joined chain of a pair
abbrev pub pair_roots : FilePair → List ℕ
pair_roots p = collected_roots p.media.readings p.other.readings

-- ---- what is refused

-- Why no new file is built that collects, or planned so. A variant further up is tested earlier, but for the length of the new file and
-- its number of root boxes, which refuse it as `media_refused` and are tested after `store_too_large`, in this order. In order: the media
-- file is refused for this reason, with its number; this of the definition file is refused first; the signed message fails this test
-- first; this rule fails of the media's store; the check of the other file answers this, and not that the file is valid; the two stores
-- clash first at the manifest with this label; a joined manifest has the new label; this redaction can't be made; the last root box, at
-- this place, says no size; no box instance number is free; the new store would have so many manifests, which are too many; it would
-- have so many bytes, which are too many; the message needs so many bytes, more than are reserved.
pub data CollectRefusal : Type 0 where
  media_refused : Reason → ℕ → CollectRefusal
  bad_definition : DefinitionField → CollectRefusal
  bad_signature : SignaturePart → CollectRefusal
  parent_fails : Failing → CollectRefusal
  other_refused : Answer → CollectRefusal
  label_clash : List ℕ → CollectRefusal
  label_taken : List ℕ → CollectRefusal
  redaction_refused : RefusedRedaction → CollectRefusal
  open_box : ℕ → CollectRefusal
  no_instance : CollectRefusal
  too_many_manifests : ℕ → CollectRefusal
  store_too_large : ℕ → CollectRefusal
  reserve_too_small : ℕ → CollectRefusal

-- the refusal that decides: the first of all that are refused, in order
abbrev pub first_refusal : List CollectRefusal → Option CollectRefusal
first_refusal refusals = slice_get refusals 0

-- ---- of both files

-- what is refused of the other file: that it isn't valid
abbrev pub other_refusals : Answer → List CollectRefusal
other_refusals (answers.Valid summary) = []
other_refusals (answers.Failing failing) = other_refused (answers.Failing failing) ∷ []
other_refusals (answers.Refused reason number) = other_refused (answers.Refused reason number) ∷ []
other_refusals answers.NoStore = other_refused answers.NoStore ∷ []

-- what is refused of a new label: that one of these manifests has it
abbrev pub label_refusals : List ℕ → List Reading → List CollectRefusal
label_refusals label rs = if has_manifest rs label then label_taken label ∷ [] else []

-- what is refused of a definition's redactions, over what is reached from roots: the first that can't be made
abbrev pub redaction_refusals : Definition → List Reading → List ℕ → List CollectRefusal
redaction_refusals d rs roots =
    option_to_list (option_map redaction_refused (redaction_refusal_by (is_reached_from rs roots) d.label rs d.redact))

-- what is refused of the media's store: that a rule fails
abbrev pub parent_refusals : MediaFile → List CollectRefusal
parent_refusals m = option_to_list (option_map parent_fails m.failing)

-- what is refused of both stores together: a clash, and over the joined manifests the new label and a redaction
abbrev pub joined_refusals : Definition → FilePair → List CollectRefusal
joined_refusals d p =
    option_to_list (option_map label_clash p.clash)
    ++ (label_refusals d.label (pair_readings p) ++ redaction_refusals d (pair_readings p) (pair_roots p))

-- all that is refused, in order, of two files that a new store of a definition collects from: of the media's store, of the other file,
-- and of both stores together
abbrev pub pair_refusals : Definition → FilePair → List CollectRefusal
pair_refusals d p = parent_refusals p.media ++ (other_refusals p.other.answer ++ joined_refusals d p)

-- ---- of the new file

-- what is refused of a place: that nothing can be put in there
abbrev pub place_refusals : Place → List CollectRefusal
place_refusals (in_segments segments number) = if is_none number then no_instance ∷ [] else []
place_refusals (in_boxes roots) = option_to_list (option_map open_box (open_end (placed_from 0 roots)))

-- what is refused of root boxes: that a BMFF file has as many as it may have
abbrev pub box_refusals : Place → List CollectRefusal
box_refusals (in_segments segments number) = []
box_refusals (in_boxes roots) = if nat_le MAX_ROOT_BOXES (length roots) then media_refused TooManyBoxes MAX_ROOT_BOXES ∷ [] else []

-- what is refused of sizes: so many manifests for a store, so many bytes for a store, and so many for a file
abbrev pub size_refusals : ℕ → ℕ → ℕ → List CollectRefusal
size_refusals manifests store file =
    (if nat_lt MAX_MANIFESTS manifests then too_many_manifests manifests ∷ [] else [])
    ++ ((if nat_lt MAX_STORE_LEN store then store_too_large store ∷ [] else [])
    ++ (if nat_le FILE_LEN_LIMIT file then media_refused FileTooLarge file ∷ [] else []))

-- all that is refused, in order, of a new file over this base with a store of so many manifests and of this content, in its place, with so
-- many bytes for its message
abbrev pub file_refusals : List ℕ → Content → ℕ → ℕ → Place → List CollectRefusal
file_refusals base c reserve manifests p =
    place_refusals p
    ++ (size_refusals manifests (store_len p c reserve) (length base + range_len p c reserve) ++ box_refusals p)

-- what is refused of a reserve: that a message with these parts needs more bytes than the definition reserves
abbrev pub reserve_refusals : Definition → SignParts → List CollectRefusal
reserve_refusals d parts = option_to_list (option_map reserve_too_small (reserve_needed d.reserve (length (bare_bytes parts))))

-- all that is refused, in order, of a new file of a definition that collects this content from two files
abbrev pub collected_refusals : Definition → FilePair → Content → Place → List CollectRefusal
collected_refusals d pair c p =
    file_refusals pair.media.base c d.reserve (length (pair_readings pair) + 1) p

-- all that is refused, in order, of two files and of a new file of a definition that collects this content from them, with a message of
-- these parts: what a build tests once its inputs are read and none of them is refused alone
abbrev pub all_refusals : Definition → SignParts → FilePair → Content → Place → List CollectRefusal
all_refusals d parts pair c p = pair_refusals d pair ++ (collected_refusals d pair c p ++ reserve_refusals d parts)

-- ---- where nothing is refused

-- a check answers that a file is valid
abbrev pub IsValidAnswer : Answer → Type 0
IsValidAnswer a = (summary : Summary) × (a ≡ answers.Valid summary)

-- A new store of this definition may collect from these two files: no rule of the media's store fails, the other is valid, and they may be
-- collected.
pub record CanCollectPair (hash : Alg → List ℕ → List ℕ) (d : Definition) (p : FilePair) : Type 0 where
  pub media : p.media.failing ≡ None
  pub other : IsValidAnswer p.other.answer
  pub can : CanCollect hash d p.media.boxes p.other.boxes p.media.readings p.other.readings

-- A new store may collect from two files where nothing of both is refused.
abbrev pub UnrefusedPairCollects : Type 0
UnrefusedPairCollects = (hash : Alg → List ℕ → List ℕ) (said : Question → Verdict) (d : Definition) (media other : List ℕ) (p : FilePair)
    → IsFilePair hash said media other p → pair_refusals d p ≡ [] → CanCollectPair hash d p

-- Where a new store may collect from two files, nothing of both is refused.
abbrev pub CollectablePairIsUnrefused : Type 0
CollectablePairIsUnrefused = (hash : Alg → List ℕ → List ℕ) (said : Question → Verdict) (d : Definition) (media other : List ℕ) (p : FilePair)
    → IsFilePair hash said media other p → CanCollectPair hash d p → pair_refusals d p ≡ []

-- The file of a new store of this definition that collects from these two files: it is built over what is left of the media, in its place,
-- with a message that has these parts, the definition's protected header among them, and fills what is reserved for it, and no limit is
-- passed.
pub record IsCollectedFile (hash : Alg → List ℕ → List ℕ) (d : Definition) (pair : FilePair) (parts : SignParts) (p : Place) (file : List ℕ) : Type 0 where
  pub own : parts.protected ≡ d.protected
  pub collects : CanCollectPair hash d pair
  pub content : Content
  pub collected : IsCollected hash d pair.media.boxes pair.other.boxes pair.media.readings pair.other.readings content
  pub message : List ℕ
  pub signed : IsSigned parts d.reserve message
  pub can : CanPut content (length message) pair.media.base p
  pub bytes : List ℕ
  pub put : put_bytes p (tree_bytes (place_store (hash (new_alg d)) content message pair.media.base p)) ≡ Some bytes
  pub is : file ≡ place_file pair.media.base p bytes

-- What a build that collects is given, where none of its inputs is refused alone: two files, a definition that can be written, a message
-- with its protected header that can be padded, what goes into the new store, and a free place for it in what is left of the media.
pub record HasCollectInputs (hash : Alg → List ℕ → List ℕ) (said : Question → Verdict) (media other : List ℕ) (d : Definition) (parts : SignParts) (pair : FilePair) (c : Content) (p : Place) : Type 0 where
  pub read : IsFilePair hash said media other pair
  pub written : CanBeWritten d
  pub own : parts.protected ≡ d.protected
  pub bytes : List ℕ
  pub paddable : IsPaddable bytes parts d.reserve
  pub content : CollectsFrom d pair.media.boxes pair.other.boxes pair.media.readings pair.other.readings c
  pub place : IsFreePlace pair.media.base p

-- Where nothing is refused of what a build that collects is given, there is a file of its new store.
abbrev pub NothingRefusedIsCollected : Type 0
NothingRefusedIsCollected = (hash : Alg → List ℕ → List ℕ) (said : Question → Verdict) (media other : List ℕ) (d : Definition) (parts : SignParts) (pair : FilePair) (c : Content) (p : Place)
    → HasCollectInputs hash said media other d parts pair c p → all_refusals d parts pair c p ≡ []
    → (file : List ℕ) × IsCollectedFile hash d pair parts p file

-- Where there is a file of the new store of what a build that collects is given, nothing is refused of that.
abbrev pub CollectedIsNotRefused : Type 0
CollectedIsNotRefused = (hash : Alg → List ℕ → List ℕ) (said : Question → Verdict) (media other : List ℕ) (d : Definition) (parts : SignParts) (pair : FilePair) (c : Content) (p : Place) (file : List ℕ)
    → HasCollectInputs hash said media other d parts pair c p → IsCollectedFile hash d pair parts p file
    → all_refusals d parts pair c p ≡ []

-- ---- there is one

-- This file is built of some definition and message, and its new store collects from these two files.
pub record IsCollectedFrom (hash : Alg → List ℕ → List ℕ) (said : Question → Verdict) (media other file : List ℕ) : Type 0 where
  pub definition : Definition
  pub pair : FilePair
  pub read : IsFilePair hash said media other pair
  pub parts : SignParts
  pub place : Place
  pub is : IsCollectedFile hash definition pair parts place file

-- a file is opened as one with a store, or as one without
abbrev pub HasStore : Bool → List ℕ → Type 0
HasStore true file = (start : ℕ) × (len : ℕ) × (t : Tree) × IsOpened file (here start len t)
HasStore false file = IsOpened file absent

-- Some file is built whose new store collects, whatever the hash, where it gives digests and judges approve each question: of a media file
-- without a store, and of a media file with one.
abbrev pub SomeFileIsCollected : Type 0
SomeFileIsCollected = (stored : Bool) (hash : Alg → List ℕ → List ℕ) (said : Question → Verdict)
    → GivesDigests hash → ((q : Question) → said q ≡ Approved)
    → (media : List ℕ) × (other : List ℕ) × (file : List ℕ) × HasStore stored media × IsCollectedFrom hash said media other file
