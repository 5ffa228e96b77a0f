-- A worked build: a definition file of five fields over a JPEG file of one segment, and a message of eight bytes. It comes to a new
-- file, so what is said of new files is said of some.
use Rattle.c2_definition.proofs.TheLaws.{each_definition_is_read_one_way_one}
use Rattle.std.proofs.Common.{◌≡◌, ℕ, Bool, true, false, List, [], ◌∷◌, Some, None, refl, sym, subst, codes, lit<, option_and_then}
use Rattle.std.specs.Prelude.{Ok}
use Rattle.std.specs.Str.{is_utf8, chars}
use Rattle.std.proofs.lemmas.Bool.{false≢true}
use Rattle.c2_lemmas.proofs.Stages.{then_next, unless_some_passes}
use Rattle.hex.proofs.OnLiterals.{hex_on_literals}
use Rattle.uuid.proofs.OnLiterals.{uuid_on_literals}
use Rattle.serde_json.proofs.OnLiterals.{serde_json_on_literals}
use Rattle.c2_base.specs.declared.values.Question.{Question}
use Rattle.c2_spec.specs.Cbor.Deterministic.{shortest_head}
use Rattle.c2_spec.specs.Located as located
use Rattle.c2_spec.specs.declared.digest.Alg.{Alg}
use Rattle.c2_spec.specs.declared.digest.Alg.TheVariants.{Sha256}
use Rattle.c2_spec.specs.declared.panel.Verdict.{Verdict}
use Rattle.c2_rules.specs.Opened.{IsOpened}
use Rattle.c2_definition.specs.DefinitionFile.{IsDefinition, assertions_in, definition_in}
use Rattle.c2_definition.specs.Json.{object_of}
use Rattle.c2_definition.specs.declared.types.Definition.{Definition}
use Rattle.c2_new_file_spec.specs.Written.{HasTexts}
use Rattle.c2_spec.specs.Jumbf.Tree.{tree_bytes}
use Rattle.c2_new_file_spec.specs.Places.{IsPlace, Place, place_store}
use Rattle.c2_build_plain.specs.Building.{Built, IsBuilt, IsEmbedded, IsEmbeddedOn, built_of}
use Rattle.c2_build_refusals.specs.Stages.{HasTextsIn, IsDefinitionStage, IsGroundStage, IsMediaStage, IsMessageStage, IsPlaceStage, fresh, fresh_ground}
use Rattle.c2_build_plain.specs.Meeting.{SomeBuildSucceeds}
use Rattle.c2_build_refusals.specs.Refusals.{Ground, first_refusal, ground_tests, late_tests, reserve_tests}
use Rattle.c2_build_refusals.proofs.Stages.{none_of_both}
use Rattle.c2_build_plain.proofs.Rooms.{pass_numbers}
use Rattle.c2_new_file_spec.specs.Store.{new_alg}
use Rattle.c2_collect_spec.proofs.Order.{some_bytes}
use Rattle.c2_collect_spec.proofs.Worked.{accepted_message, is_absent, is_place, media, message, parts, place, signed, spelled}
use Rattle.c2_collect_spec.proofs.WorkedFiles.{have_payloads}

-- ---- the definition

-- what the file is
abbrev pub defined : Definition
defined =
    record
    { label = codes "urn:c2pa:00000000-0000-4000-8000-00000000000a"; instance_id = codes "i"; generator = codes "g"; title = None; protected = 10 ∷ []; reserve = 64; assertions = []; redact = []; alg = Sha256 }

-- {"label":"urn:c2pa:00000000-0000-4000-8000-00000000000a","instance_id":"i","generator":"g","protected":"0A","reserve":64}
abbrev pub definition_file : List ℕ
definition_file = 123 ∷ 34 ∷ 108 ∷ 97 ∷ 98 ∷ 101 ∷ 108 ∷ 34 ∷ 58 ∷ 34 ∷ 117 ∷ 114 ∷ 110 ∷ 58 ∷ 99 ∷ 50 ∷ 112 ∷ 97 ∷ 58 ∷ 48 ∷ 48 ∷ 48 ∷ 48 ∷ 48 ∷ 48 ∷ 48 ∷ 48 ∷ 45 ∷ 48 ∷ 48 ∷ 48 ∷ 48 ∷ 45 ∷ 52 ∷ 48 ∷ 48 ∷ 48 ∷ 45 ∷ 56 ∷ 48 ∷ 48 ∷ 48 ∷ 45
    ∷ 48 ∷ 48 ∷ 48 ∷ 48 ∷ 48 ∷ 48 ∷ 48 ∷ 48 ∷ 48 ∷ 48 ∷ 48 ∷ 97 ∷ 34 ∷ 44 ∷ 34 ∷ 105 ∷ 110 ∷ 115 ∷ 116 ∷ 97 ∷ 110 ∷ 99
    ∷ 101 ∷ 95 ∷ 105 ∷ 100 ∷ 34 ∷ 58 ∷ 34 ∷ 105 ∷ 34 ∷ 44 ∷ 34 ∷ 103 ∷ 101 ∷ 110 ∷ 101 ∷ 114 ∷ 97 ∷ 116 ∷ 111 ∷ 114
    ∷ 34 ∷
    58 ∷ 34 ∷ 103 ∷ 34 ∷ 44 ∷ 34 ∷ 112 ∷ 114 ∷ 111 ∷ 116 ∷ 101 ∷ 99 ∷ 116 ∷ 101 ∷ 100 ∷ 34 ∷ 58 ∷ 34 ∷ 48 ∷ 65 ∷ 34 ∷ 44
    ∷ 34 ∷ 114 ∷ 101 ∷ 115 ∷ 101 ∷ 114 ∷ 118 ∷ 101 ∷ 34 ∷ 58 ∷ 54 ∷ 52 ∷ 125 ∷ []

-- the definition is what the definition file is read as
defined_row : (payloads : Bool) → payloads ≡ true → definition_in payloads definition_file ≡ Ok defined
unfolding is_utf8 chars hex_on_literals uuid_on_literals serde_json_on_literals
defined_row true e = refl
defined_row false e = absurd (false≢true e)

-- the definition file has no assertions
no_assertions : option_and_then assertions_in (object_of definition_file) ≡ Some []
unfolding is_utf8 chars hex_on_literals uuid_on_literals serde_json_on_literals
no_assertions = refl

-- the file is this definition
pub is_defined : IsDefinition definition_file (Ok defined)
is_defined = record {
  payloads = true;
  told = (λ e. have_payloads definition_file no_assertions, λ h. refl);
  is = sym (defined_row true refl);
}

-- ---- its texts

-- the texts of the definition are texts
pub texts : HasTexts defined
unfolding lib.Utf8.encode
texts = record {
  label = record { utf8 = (defined.label, (refl, refl)); short = lit< tt };
  instance = record { utf8 = (defined.instance_id, (refl, refl)); short = lit< tt };
  generator = record { utf8 = (defined.generator, (refl, refl)); short = lit< tt };
  title = tt;
  labels = tt;
  redact = tt;
}

-- the texts of each definition that the file is are texts
pub texts_in : HasTextsIn definition_file
texts_in d is = let same : defined ≡ d = cc (each_definition_is_read_one_way_one definition_file (Ok defined) (Ok d) is_defined is) in subst HasTexts same texts

-- ---- the build

-- a new file comes of a media file without a store, where no test fails at its place, whatever the hash and the judges
pub worked_in :
    (hash : Alg → List ℕ → List ℕ) (said : Question → Verdict) (file : List ℕ) (p : Place)
    → IsOpened file located.absent → IsPlace file p
    → first_refusal (late_tests (fresh_ground file defined) parts p) ≡ None
    → (b : Built) × IsEmbedded hash said file definition_file message (Ok b)
worked_in hash said file p absent at none =
    let filled = signed in
    let g : Ground = fresh_ground file defined in
    let numbers = none_of_both (ground_tests g p) (reserve_tests defined parts) none in
    let bytes =
    some_bytes p (pass_numbers g p numbers.0).room
    (tree_bytes (place_store (hash (new_alg g.content.definition)) g.content filled.0 g.base p)) in
    let b : Built = built_of g p bytes.0 in
    let is_built : IsBuilt hash g p parts (Ok b) = (filled.0, filled.1, (bytes.0, bytes.1, refl)) in (
      b,
      then_next (IsMediaStage file) _ fresh (Ok b) (located.absent, absent, refl)
          (then_next (IsDefinitionStage definition_file) _ defined (Ok b) (Ok defined, is_defined, refl)
          (then_next (IsMessageStage defined.protected message) _ parts (Ok b)
          (Ok parts, (accepted_message, spelled), refl)
          (then_next (IsGroundStage hash said file defined fresh) (IsEmbeddedOn hash parts) g (Ok b) refl
          (then_next (IsPlaceStage file) _ p (Ok b) (p, at, refl)
          (unless_some_passes (first_refusal (late_tests g parts p)) (IsBuilt hash g p parts) (Ok b) none is_built))))),
    )

-- no test fails at the place of the JPEG file
pub none_fails : first_refusal (late_tests (fresh_ground media defined) parts place) ≡ None
unfolding shortest_head
none_fails = refl

-- some build succeeds
pub some_succeeds : SomeBuildSucceeds
some_succeeds hash said =
    let w = worked_in hash said media place is_absent is_place none_fails in
    (media, definition_file, message, w.0, texts_in, w.1)
