-- What is refused of a build into a media file, once its inputs are read: tests in their order, which is this project's own choice.
use Rattle.std.specs.Prelude.{◌≡◌, ℕ, ◌+◌, ◌<◌, nat_lt, nat_le, Bool, true, false, List, [], ◌∷◌, ◌++◌, length, is_none, option_map, slice_get, if◌then◌else◌}
use Rattle.std.specs.declared.option.Option.{Option}
use Rattle.std.specs.declared.option.Option.TheVariants.{Some, None}
use Rattle.std.specs.Option.{option_to_list}
use Rattle.c2_base.specs.declared.limits.TheConstants.{MAX_MANIFESTS, MAX_STORE_LEN, MAX_ROOT_BOXES, FILE_LEN_LIMIT}
use Rattle.c2_spec.specs.Bmff.Paths.{placed_from}
use Rattle.c2_spec.specs.Bmff.Writing.{open_end}
use Rattle.c2_spec.specs.C2pa.Message.{bare_bytes}
use Rattle.c2_spec.specs.C2pa.Sign1.{SignParts}
use Rattle.c2_spec.specs.declared.reason.Reason.TheVariants.{FileTooLarge, TooManyBoxes}
use Rattle.c2_rules.specs.Readings.{Reading}
use Rattle.c2_rules.specs.declared.answer.Failing.{Failing}
use Rattle.c2_definition.specs.declared.types.Definition.{Definition}
use Rattle.c2_new_signature.specs.Refusals.{reserve_needed}
use Rattle.c2_new_file_spec.specs.Store.{Content}
use Rattle.c2_new_file_spec.specs.Refusing.{has_manifest, redaction_refusal}
use Rattle.c2_new_file_spec.specs.declared.refused.RefusedRedaction.{RefusedRedaction}
use Rattle.c2_new_file_spec.specs.Places.{Place, in_boxes, in_segments, range_len, store_len}
use Rattle.c2_build_refusals.specs.declared.error.BuildError.{BuildError}
use Rattle.c2_build_refusals.specs.declared.error.BuildError.TheVariants.{MediaRefused, ParentFails, LabelTaken, RedactionRefused, OpenBox, NoInstance, TooManyManifests, StoreTooLarge, ReserveTooSmall}

-- A test of a build: whether it fails, and what is answered then.
pub record BuildTest : Type 0 where
  pub fails : Bool
  pub refusal : BuildError

-- a test with what is answered where it fails
abbrev pub refuse_if : Bool → BuildError → BuildTest
refuse_if fails refusal = record { fails = fails; refusal = refusal }

-- what the first test that fails answers
abbrev pub first_refusal : List BuildTest → Option BuildError
first_refusal [] = None
first_refusal (t ∷ ts) = if t.fails then Some t.refusal else first_refusal ts

-- every test passes
abbrev pub AllPass : List BuildTest → Type 0
AllPass ts = (i : ℕ) (t : BuildTest) → slice_get ts i ≡ Some t → t.fails ≡ false

-- The test at this place fails and answers this, and each before it passes.
pub record RefusesFirst (ts : List BuildTest) (place : ℕ) (refusal : BuildError) : Type 0 where
  pub fault : BuildTest
  pub at_place : slice_get ts place ≡ Some fault
  pub fails : fault.fails ≡ true
  pub says : refusal ≡ fault.refusal
  pub earlier : (i : ℕ) (t : BuildTest) → i < place → slice_get ts i ≡ Some t → t.fails ≡ false

-- a refusal is that of the first test that fails; there is none where every test passes
abbrev pub IsRefusalOf : List BuildTest → Option BuildError → Type 0
IsRefusalOf ts None = AllPass ts
IsRefusalOf ts (Some refusal) = (place : ℕ) × RefusesFirst ts place refusal

-- What tests answer is that.
abbrev pub FirstRefusalIsLeast : Type 0
FirstRefusalIsLeast = (ts : List BuildTest) → IsRefusalOf ts (first_refusal ts)

-- ---- what a new file is built over

-- What a new file is built over: the media less its older store; what goes into the new store; and how many manifests this has
-- then.
pub record Ground : Type 0 where
  pub base : List ℕ
  pub content : Content
  pub manifests : ℕ

-- how many bytes the new store has in this place
abbrev pub new_store_len : Place → Content → ℕ
new_store_len p c = store_len p c c.definition.reserve

-- how many bytes are put in there
abbrev pub new_range_len : Place → Content → ℕ
new_range_len p c = range_len p c c.definition.reserve

-- ---- the older store

-- the redaction that is refused first, where one is, of those of a definition over manifests that were read so; without an older
-- store there are none
abbrev pub redaction_tests : Definition → List Reading → List BuildTest
redaction_tests d rs =
    option_to_list (option_map (λ (r : RefusedRedaction). refuse_if true (RedactionRefused r.text r.code))
    (redaction_refusal d.label rs d.redact))

-- a rule of the check of the older store fails
abbrev pub parent_tests : Option Failing → List BuildTest
parent_tests found =
    option_to_list (option_map (λ (f : Failing). refuse_if true (ParentFails f.code f.uri)) found)

-- a manifest of the older store has the new label
abbrev pub label_tests : Definition → List Reading → List BuildTest
label_tests d rs = refuse_if (has_manifest rs d.label) (LabelTaken d.label) ∷ []

-- what is tested of an older store that was read so, where its check found this
abbrev pub older_tests : Definition → List Reading → Option Failing → List BuildTest
older_tests d rs found = parent_tests found ++ (label_tests d rs ++ redaction_tests d rs)

-- ---- numbers

-- nothing can be put in at the place: no box instance number is free in a JPEG file, or the last root box of a BMFF file is open
abbrev pub place_tests : Place → List BuildTest
place_tests (in_segments segments number) = refuse_if (is_none number) NoInstance ∷ []
place_tests (in_boxes roots) =
    option_to_list (option_map (λ (at : ℕ). refuse_if true (OpenBox at)) (open_end (placed_from 0 roots)))

-- a BMFF file has as many root boxes as it may have
abbrev pub box_tests : Place → List BuildTest
box_tests (in_segments segments number) = []
box_tests (in_boxes roots) =
    refuse_if (nat_le MAX_ROOT_BOXES (length roots)) (MediaRefused TooManyBoxes MAX_ROOT_BOXES) ∷ []

-- the tests by numbers that are known before anything is digested, where the base has so many bytes: whether a store can be put in at the
-- place, how many manifests the new store has, its length, the file's, and how many root boxes that has
abbrev pub number_tests : ℕ → ℕ → Content → Place → List BuildTest
number_tests size manifests c p =
    place_tests p
    ++ (refuse_if (nat_lt MAX_MANIFESTS manifests) (TooManyManifests manifests)
    ∷ refuse_if (nat_lt MAX_STORE_LEN (new_store_len p c)) (StoreTooLarge (new_store_len p c))
    ∷ refuse_if (nat_le FILE_LEN_LIMIT (size + new_range_len p c)) (MediaRefused FileTooLarge (size + new_range_len p c))
    ∷ box_tests p)

-- the tests of a new file over this ground by numbers that are known before anything is digested
abbrev pub ground_tests : Ground → Place → List BuildTest
ground_tests g p = number_tests (length g.base) g.manifests g.content p

-- the reserve holds too few bytes for a message with these parts
abbrev pub reserve_tests : Definition → SignParts → List BuildTest
reserve_tests d p =
    option_to_list (option_map (λ (needed : ℕ). refuse_if true (ReserveTooSmall needed))
    (reserve_needed d.reserve (length (bare_bytes p))))

-- the error says that a message with these parts doesn't fit into what a definition reserves
abbrev pub IsReserveRefusal : Definition → SignParts → BuildError → Type 0
IsReserveRefusal d p e = (n : ℕ) × (reserve_needed d.reserve (length (bare_bytes p)) ≡ Some n) × (e ≡ ReserveTooSmall n)

-- all tests of a new file over this ground at the place, where a message has these parts
abbrev pub late_tests : Ground → SignParts → Place → List BuildTest
late_tests g parts p = ground_tests g p ++ reserve_tests g.content.definition parts
