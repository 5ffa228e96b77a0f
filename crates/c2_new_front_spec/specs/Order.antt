-- What is refused of a build in front of a BMFF file without a store: each thing in its order, which is this project's own choice. What
-- is planned is a file without its message; what is built has a message that fills what is reserved for it.
use Rattle.std.specs.Prelude.{◌≡◌, ℕ, ◌+◌, nat_lt, nat_le, true, List, [], ◌∷◌, ◌++◌, length, map, option_map, None, if◌then◌else◌}
use Rattle.std.specs.List.{flat_map}
use Rattle.std.specs.Option.{option_to_list}
use Rattle.c2_base.specs.declared.limits.TheConstants.{MAX_STORE_LEN, MAX_ROOT_BOXES, FILE_LEN_LIMIT}
use Rattle.c2_spec.specs.Bmff.Boxes.{Box, HasRoots}
use Rattle.c2_spec.specs.C2pa.Message.{bare_bytes}
use Rattle.c2_spec.specs.C2pa.Sign1.{SignParts}
use Rattle.c2_spec.specs.Container.{is_bmff}
use Rattle.c2_spec.specs.Jumbf.Tree.{Tree}
use Rattle.c2_spec.specs.Located.{Opening, refused, absent, here}
use Rattle.c2_spec.specs.declared.reason.Reason.{Reason}
use Rattle.c2_spec.specs.declared.reason.Reason.TheVariants.{FileTooLarge, TooManyBoxes}
use Rattle.c2_bmff_rows.specs.Rows.{rows_of}
use Rattle.c2_bmff_chunks.specs.Fields.{overflow_places}
use Rattle.c2_bmff_chunks.specs.Laws.{AreBytes}
use Rattle.c2_bmff_chunks.specs.Refusals.{shift_refusals}
use Rattle.c2_bmff_chunks.specs.declared.table.ShiftError.{ShiftError}
use Rattle.c2_bmff_chunks.specs.declared.table.ShiftError.TheVariants.{OffsetTable, BadTree, BadTable}
use Rattle.c2_definition.specs.declared.types.Definition.{Definition}
use Rattle.c2_definition.specs.declared.types.DefinitionField.{DefinitionField}
use Rattle.c2_new_signature.specs.Refusals.{reserve_needed}
use Rattle.c2_new_signature.specs.Signed.{IsPaddable, IsSigned}
use Rattle.c2_new_signature.specs.declared.error.SignaturePart.{SignaturePart}
use Rattle.c2_new_file_spec.specs.Built.{HasDigestLen}
use Rattle.c2_new_file_spec.specs.Fresh.{IsFresh, fresh_content}
use Rattle.c2_new_file_spec.specs.Store.{new_alg}
use Rattle.c2_new_file_spec.specs.Refusing.{redaction_refusal}
use Rattle.c2_new_file_spec.specs.declared.refused.RefusedRedaction.{RefusedRedaction}
use Rattle.c2_new_file_spec.specs.Films.{AreOthers, bmff_len, bmff_store_size}
use Rattle.c2_new_front_spec.specs.Fronts.{CanBuildFront, IsFrontBuilt, tables_of}
use Rattle.c2_new_front_spec.specs.InFront.{front_place, open_first}

-- ---- in order

-- Why no new file is built with its store in front, or planned so. A variant further up is tested earlier, but for the length and the
-- number of root boxes of the new file, which are tested after `store_too_large`, in this order, before `overflow`. In order: the media
-- file is refused for this reason, with its number; this of the definition file is refused first; the signed message fails this test
-- first; the media is no BMFF file; it has a store; its first root box, at this place, says no size; this redaction can't be made; the
-- box at this place holds offsets that aren't known; no list of boxes fills the box at this place, which is on the path to chunk tables;
-- the chunk table at this place hasn't its form; the new store has so many bytes, which are too many; a moved place doesn't fit into the
-- field that begins here; the message needs so many bytes, more than are reserved.
pub data FrontRefusal : Type 0 where
  media_refused : Reason → ℕ → FrontRefusal
  bad_definition : DefinitionField → FrontRefusal
  bad_signature : SignaturePart → FrontRefusal
  not_bmff : FrontRefusal
  has_store : FrontRefusal
  open_box : ℕ → FrontRefusal
  redaction_refused : RefusedRedaction → FrontRefusal
  offset_table : ℕ → FrontRefusal
  bad_tree : ℕ → FrontRefusal
  bad_table : ℕ → FrontRefusal
  store_too_large : ℕ → FrontRefusal
  overflow : ℕ → FrontRefusal
  reserve_too_small : ℕ → FrontRefusal

-- what is refused of a media file that is opened so for the store that it has
abbrev pub store_refusals : Opening Tree → List FrontRefusal
store_refusals (refused reason number) = []
store_refusals absent = []
store_refusals (here start len t) = has_store ∷ []

-- what is refused, in order, of a media file that is opened so, before its root boxes are looked at: that it is no BMFF file, and that it
-- has a store
abbrev pub bmff_refusals : List ℕ → Opening Tree → List FrontRefusal
bmff_refusals media what = (if is_bmff media then [] else not_bmff ∷ []) ++ store_refusals what

-- What stands in the way of moving the media data, as a refusal. No error that says nothing of the file is ever in the list of these.
abbrev pub shift_refusal : ShiftError → List FrontRefusal
shift_refusal (OffsetTable at) = offset_table at ∷ []
shift_refusal (BadTree at) = bad_tree at ∷ []
shift_refusal (BadTable at) = bad_table at ∷ []
shift_refusal e = []

-- a new store and a new file of so many bytes that are too large, and so many root boxes of the media that leave no room for one more
abbrev pub size_refusals : ℕ → ℕ → ℕ → List FrontRefusal
size_refusals store file boxes =
    (if nat_lt MAX_STORE_LEN store then store_too_large store ∷ [] else [])
    ++ ((if nat_le FILE_LEN_LIMIT file then media_refused FileTooLarge file ∷ [] else [])
    ++ (if nat_le MAX_ROOT_BOXES boxes then media_refused TooManyBoxes MAX_ROOT_BOXES ∷ [] else []))

-- the fields whose moved places are too large, where so many bytes are put in
abbrev pub overflow_refusals : ℕ → List ℕ → List Box → List FrontRefusal
overflow_refusals len media roots = map overflow (overflow_places (front_place roots) len media (tables_of media roots))

-- all that is refused, in order, of a media file with these root boxes and a definition, whatever the message is
abbrev pub plan_refusals : List ℕ → List Box → Definition → List FrontRefusal
plan_refusals media roots d =
    option_to_list (option_map open_box (open_first roots))
    ++ (option_to_list (option_map redaction_refused (redaction_refusal d.label [] d.redact))
    ++ (flat_map shift_refusal (shift_refusals media (rows_of roots))
    ++ (size_refusals (bmff_store_size (fresh_content d) d.reserve) (length media + bmff_len (fresh_content d) d.reserve) (length roots)
    ++ overflow_refusals (bmff_len (fresh_content d) d.reserve) media roots)))

-- the message with these parts needs more bytes than the definition reserves
abbrev pub reserve_refusals : Definition → SignParts → List FrontRefusal
reserve_refusals d p = option_to_list (option_map reserve_too_small (reserve_needed d.reserve (length (bare_bytes p))))

-- all that is refused, in order, where the message has these parts: last, that it needs more bytes than are reserved
abbrev pub front_refusals : List ℕ → List Box → Definition → SignParts → List FrontRefusal
front_refusals media roots d p = plan_refusals media roots d ++ reserve_refusals d p

-- ---- what is planned

-- A new file can be planned of a media file with these root boxes and a definition: the media can take a store of the definition's content,
-- with the bytes that it reserves for the message, and no redaction of it is refused.
pub record CanPlanFront (media : List ℕ) (roots : List Box) (d : Definition) : Type 0 where
  pub can : CanBuildFront (fresh_content d) d.reserve media roots
  pub redactions : redaction_refusal d.label [] d.redact ≡ None

-- Of a BMFF file without a store a new file can be planned where the list of what is refused of a plan is empty.
abbrev pub UnrefusedCanBePlanned : Type 0
UnrefusedCanBePlanned = (media : List ℕ) (roots : List Box) (d : Definition)
    → is_bmff media ≡ true → AreBytes media → HasRoots media roots → AreOthers roots
    → plan_refusals media roots d ≡ [] → CanPlanFront media roots d

-- Where a new file can be planned, the list of what is refused of a plan is empty.
abbrev pub PlannedIsNotRefused : Type 0
PlannedIsNotRefused = (media : List ℕ) (roots : List Box) (d : Definition) → CanPlanFront media roots d
    → plan_refusals media roots d ≡ []

-- Where a new file can be planned, the definition redacts nothing, as there is no older store: so its content alone is fresh.
abbrev pub PlannedIsFresh : Type 0
PlannedIsFresh = (media : List ℕ) (roots : List Box) (d : Definition) → CanPlanFront media roots d → IsFresh (fresh_content d)

-- ---- what is built

-- The front file of a media file with these root boxes and a definition: nothing is in its store but the content of the definition, the
-- message has these parts and fills what is reserved for it, and no limit on sizes is passed.
pub record IsFrontFile (hash : List ℕ → List ℕ) (d : Definition) (p : SignParts) (media : List ℕ) (roots : List Box) (file : List ℕ) : Type 0 where
  pub can : CanPlanFront media roots d
  pub message : List ℕ
  pub signed : IsSigned p d.reserve message
  pub built : IsFrontBuilt hash (fresh_content d) message media file (front_place roots) (bmff_len (fresh_content d) (length message))

-- Of a BMFF file without a store and a message that can be padded there is a front file where nothing is refused.
abbrev pub NothingRefusedIsBuilt : Type 0
NothingRefusedIsBuilt = (hash : List ℕ → List ℕ) (d : Definition) (bytes : List ℕ) (p : SignParts) (media : List ℕ) (roots : List Box)
    → HasDigestLen (new_alg d) hash → IsPaddable bytes p d.reserve
    → is_bmff media ≡ true → AreBytes media → HasRoots media roots → AreOthers roots
    → front_refusals media roots d p ≡ [] → (file : List ℕ) × IsFrontFile hash d p media roots file

-- Where there is a front file, nothing is refused.
abbrev pub BuiltIsNotRefused : Type 0
BuiltIsNotRefused = (hash : List ℕ → List ℕ) (d : Definition) (p : SignParts) (media : List ℕ) (roots : List Box) (file : List ℕ)
    → IsFrontFile hash d p media roots file → front_refusals media roots d p ≡ []
