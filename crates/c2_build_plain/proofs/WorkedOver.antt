-- A worked build over a file with a store: the media is the file that a worked build writes, and the definition that of `Worked` under
-- another label. The store of the media is valid where the hash gives digests and judges approve its question.
use Rattle.c2_definition.proofs.TheLaws.{definitions_are_well_formed, each_definition_is_read_one_way_one}
use Rattle.std.proofs.Common.{◌≡◌, ℕ, ◌+◌, ◌<◌, ◌≤◌, Bool, true, false, bytes_eq, unwrap_or, List, [], ◌∷◌, ◌++◌, length, replicate, Option, Some, None, refl, sym, ap, ◌∙◌, subst, arith, codes, lit<, option_and_then, append-nil}
use Rattle.std.specs.Prelude.{Ok, nat_lt, nat_le}
use Rattle.std.specs.List.{AllZip, list_any}
use Rattle.std.specs.Str.{is_utf8, chars}
use Rattle.std.proofs.lemmas.Bool.{false≢true}
use Rattle.c2_lemmas.proofs.Stages.{then_next, unless_some_passes}
use Rattle.hex.proofs.OnLiterals.{hex_on_literals}
use Rattle.uuid.proofs.OnLiterals.{uuid_on_literals}
use Rattle.serde_json.proofs.OnLiterals.{serde_json_on_literals}
use Rattle.c2_base.specs.declared.limits.TheConstants.{FILE_LEN_LIMIT, MAX_MANIFESTS, MAX_STORE_LEN}
use Rattle.c2_base.specs.declared.values.Question.{Question}
use Rattle.c2_spec.specs.Bmff.Writing.{c2pa_frame_len}
use Rattle.c2_spec.specs.C2pa.Manifest.{Manifest, manifests_of}
use Rattle.c2_spec.specs.C2pa.Message.{padded_read}
use Rattle.c2_spec.specs.Container.{is_bmff}
use Rattle.c2_spec.specs.Jpeg.Writing.{segments_len}
use Rattle.c2_spec.specs.Jumbf.Tree.{Tree, more, none, tree_bytes}
use Rattle.c2_spec.specs.Located.{here}
use Rattle.c2_spec.specs.declared.digest.Alg.TheVariants.{Sha256}
use Rattle.c2_spec.specs.declared.digest.Alg.{Alg}
use Rattle.c2_spec.specs.declared.panel.Verdict.TheVariants.{Approved}
use Rattle.c2_spec.specs.declared.panel.Verdict.{Verdict}
use Rattle.c2_spec.specs.declared.reason.Reason.TheVariants.{FileTooLarge}
use Rattle.c2_rules.specs.CheckList.{IsValid, StoreReading, check_list, questions}
use Rattle.c2_rules.specs.Readings.{IsReading, Reading}
use Rattle.c2_rules.specs.Tests.{first_failing}
use Rattle.c2_rules.specs.declared.answer.Failing.{Failing}
use Rattle.c2_rules.proofs.FirstLemmas.{none_fails as no_failing}
use Rattle.c2_pad.specs.Fill.{fill_pairs}
use Rattle.c2_definition.specs.DefinitionFile.{IsDefinition, assertions_in, definition_in}
use Rattle.c2_definition.specs.Json.{object_of}
use Rattle.c2_definition.specs.declared.types.Definition.{Definition}
use Rattle.c2_definition.specs.declared.types.NewAssertion.{NewAssertion}
use Rattle.c2_new_signature.specs.Signed.{IsSigned}
use Rattle.c2_new_file_spec.specs.Built.{HasDigestLen, no_digest}
use Rattle.c2_new_file_spec.specs.Fresh.{GivesDigests, MeetsTheRules, fresh_content}
use Rattle.c2_new_file_spec.specs.FreshBoxes.{contents_of, item_box, store_box}
use Rattle.c2_new_file_spec.specs.Manifests.{manifest_of}
use Rattle.c2_new_file_spec.specs.Store.{Content, NamedManifest, data_binding, new_alg, new_manifest, parent_ingredient}
use Rattle.c2_new_file_spec.specs.Written.{HasTexts}
use Rattle.c2_new_file_spec.proofs.ByIndex.{same_manifests}
use Rattle.c2_new_file_spec.proofs.StoreSize.{store_len as store_len_is}
use Rattle.c2_new_file_spec.specs.Parents.{IsContentOver}
use Rattle.c2_new_file_spec.specs.Redacting.{boxes_in, redacted_boxes}
use Rattle.c2_new_file_spec.specs.Refusing.{has_manifest}
use Rattle.c2_new_file_spec.specs.Films.{new_bmff_binding}
use Rattle.c2_new_file_spec.specs.Bases.{IsLeft}
use Rattle.c2_new_file_spec.proofs.FileLaws.{a_new_store_has_one_length_in_its_place}
use Rattle.c2_new_content_spec.proofs.SplitLaws.{a_file_built_in_its_place_meets_the_rules_fresh}
use Rattle.c2_new_file_spec.specs.Places.{CanPut, HasRoom, IsFreePlace, Place, bound_text, in_boxes, in_segments, place_binding, place_file, place_question, place_start, place_store, put_bytes, range_len, store_len}
use Rattle.c2_build_plain.specs.Building.{Built, IsBuilt, IsEmbedded, IsEmbeddedOn, built_of}
use Rattle.c2_build_refusals.specs.Stages.{HasTextsIn, IsDefinitionStage, IsGroundOver, IsGroundStage, IsMediaStage, IsMessageStage, IsPlaceStage, MediaKind, fresh_ground, stored}
use Rattle.c2_build_refusals.specs.Refusals.{Ground, box_tests, first_refusal, ground_tests, late_tests, older_tests, place_tests, refuse_if, reserve_tests}
use Rattle.c2_build_refusals.specs.declared.error.BuildError.{BuildError}
use Rattle.c2_build_refusals.specs.declared.error.BuildError.TheVariants.{LabelTaken, MediaRefused, StoreTooLarge, TooManyManifests}
use Rattle.c2_build_refusals.proofs.Stages.{none_of_both}
use Rattle.c2_build_refusals.proofs.Passing.{ground_of}
use Rattle.c2_rules.proofs.Approving.{approved_is_valid}
use Rattle.c2_build_plain.proofs.Rooms.{PassNumbers, pass_numbers}
use Rattle.c2_build_plain.proofs.Worked.{defined, definition_file, is_defined, texts}
use Rattle.c2_spec.specs.Digest.{zero_digest}
use Rattle.c2_collect_spec.proofs.Order.{some_bytes}
use Rattle.c2_collect_spec.proofs.WorkedFiles.{have_payloads}
use Rattle.c2_collect_spec.proofs.Worked.{IsOneReading, accepted_message, all_approved, message, one_reading, parts, signed, spelled}

-- ---- the definition

-- what the second file is
abbrev pub second : Definition
second =
    record
    { label = codes "urn:c2pa:00000000-0000-4000-8000-00000000000b"; instance_id = codes "i"; generator = codes "g"; title = None; protected = 10 ∷ []; reserve = 64; assertions = []; redact = []; alg = Sha256 }

-- {"label":"urn:c2pa:00000000-0000-4000-8000-00000000000b","instance_id":"i","generator":"g","protected":"0A","reserve":64}
abbrev second_file : List ℕ
second_file = 123 ∷ 34 ∷ 108 ∷ 97 ∷ 98 ∷ 101 ∷ 108 ∷ 34 ∷ 58 ∷ 34 ∷ 117 ∷ 114 ∷ 110 ∷ 58 ∷ 99 ∷ 50 ∷ 112 ∷ 97 ∷ 58 ∷ 48 ∷ 48 ∷ 48 ∷ 48 ∷ 48 ∷ 48 ∷ 48 ∷ 48 ∷ 45 ∷ 48 ∷ 48 ∷ 48 ∷ 48 ∷ 45 ∷ 52 ∷ 48 ∷ 48 ∷ 48 ∷ 45 ∷ 56 ∷ 48 ∷ 48 ∷ 48 ∷ 45 ∷ 48
    ∷ 48 ∷ 48 ∷ 48 ∷ 48 ∷ 48 ∷ 48 ∷ 48 ∷ 48 ∷ 48 ∷ 48 ∷ 98 ∷ 34 ∷ 44 ∷ 34 ∷ 105 ∷ 110 ∷ 115 ∷ 116 ∷ 97 ∷ 110 ∷ 99 ∷ 101
    ∷ 95 ∷ 105 ∷ 100 ∷ 34 ∷ 58 ∷ 34 ∷ 105 ∷ 34 ∷ 44 ∷ 34 ∷ 103 ∷ 101 ∷ 110 ∷ 101 ∷ 114 ∷ 97 ∷ 116 ∷ 111 ∷ 114 ∷ 34
    ∷ 58 ∷
    34 ∷ 103 ∷ 34 ∷ 44 ∷ 34 ∷ 112 ∷ 114 ∷ 111 ∷ 116 ∷ 101 ∷ 99 ∷ 116 ∷ 101 ∷ 100 ∷ 34 ∷ 58 ∷ 34 ∷ 48 ∷ 65 ∷ 34 ∷ 44 ∷ 34
    ∷ 114 ∷ 101 ∷ 115 ∷ 101 ∷ 114 ∷ 118 ∷ 101 ∷ 34 ∷ 58 ∷ 54 ∷ 52 ∷ 125 ∷ []

-- the second definition is what the second definition file is read as
second_row : (payloads : Bool) → payloads ≡ true → definition_in payloads second_file ≡ Ok second
unfolding is_utf8 chars hex_on_literals uuid_on_literals serde_json_on_literals
second_row true e = refl
second_row false e = absurd (false≢true e)

-- the second definition file has no assertions
no_assertions : option_and_then assertions_in (object_of second_file) ≡ Some []
unfolding is_utf8 chars hex_on_literals uuid_on_literals serde_json_on_literals
no_assertions = refl

-- the file is this definition
is_second : IsDefinition second_file (Ok second)
is_second = record {
  payloads = true;
  told = (λ e. have_payloads second_file no_assertions, λ h. refl);
  is = sym (second_row true refl);
}

-- the texts of the definition are texts
second_texts : HasTexts second
unfolding lib.Utf8.encode
second_texts = record {
  label = record { utf8 = (second.label, (refl, refl)); short = lit< tt };
  instance = record { utf8 = (second.instance_id, (refl, refl)); short = lit< tt };
  generator = record { utf8 = (second.generator, (refl, refl)); short = lit< tt };
  title = tt;
  labels = tt;
  redact = tt;
}

-- the texts of each definition that the second file is are texts
second_texts_in : HasTextsIn second_file
second_texts_in d is = let same : second ≡ d = cc (each_definition_is_read_one_way_one second_file (Ok second) (Ok d) is_second is) in subst HasTexts same second_texts

-- ---- the media

-- what goes into the first store
abbrev pub first : Content
first = fresh_content defined

-- the first manifest, with this message
abbrev manifest : (List ℕ → List ℕ) → List ℕ → List ℕ → Place → Tree
manifest hash padded file p = new_manifest hash first (place_binding hash first (length padded) file p) padded

-- the first store
abbrev pub older : (List ℕ → List ℕ) → List ℕ → List ℕ → Place → Tree
older hash padded file p = place_store hash first padded file p

-- the first file without its store is the media of the first build
abbrev pub IsLeftAgain : List ℕ → Place → Type 0
IsLeftAgain file p = (hash : List ℕ → List ℕ) (padded bytes : List ℕ) → HasDigestLen Sha256 hash → CanPut first (length padded) file p → put_bytes p (tree_bytes (older hash padded file p)) ≡ Some bytes
    → IsLeft (place_file file p bytes) (place_start p) (range_len p first (length padded)) file

-- ---- lengths

-- a binding in such a place by this algorithm, without a digest
abbrev no_binding_by : Alg → Place → NewAssertion
no_binding_by alg (in_segments segments number) = data_binding alg 0 0 (zero_digest alg)
no_binding_by alg (in_boxes roots) = new_bmff_binding alg (zero_digest alg)

-- a binding in such a place by the algorithm of both definitions, without a digest
abbrev pub no_binding : Place → NewAssertion
no_binding p = no_binding_by Sha256 p

-- how many bytes a store of so many bytes takes in such a place
abbrev pub range_of : Place → ℕ → ℕ
range_of (in_segments segments number) size = segments_len size
range_of (in_boxes roots) size = c2pa_frame_len + size

-- a parent with the first label, of which nothing else counts for lengths
abbrev any_parent : NamedManifest
any_parent = record { label = defined.label; contents = []; signed = [] }

-- what goes into a store with this parent, over this manifest
abbrev content : NamedManifest → Tree → Content
content p m = record { definition = second; carried = more m none; ingredients = parent_ingredient p ∷ [] }

-- the first manifest without digests
abbrev first_manifest : NewAssertion → Tree
first_manifest b = new_manifest (no_digest Sha256) first b (replicate 64 0)

-- the second manifest without digests, which doesn't depend on what is carried
abbrev second_manifest : NewAssertion → NamedManifest → Tree → Tree
second_manifest b p m = new_manifest (no_digest Sha256) (content p m) b (replicate 64 0)

-- how many bytes the second store has
abbrev pub total : NewAssertion → ℕ
total b =
    38 + length (tree_bytes (first_manifest b)) + length (tree_bytes (second_manifest b any_parent (first_manifest b)))

-- the refusal where so many manifests are in a store of so many bytes, beside a base of so many
abbrev pub refusal_with : Place → ℕ → Definition → ℕ → ℕ → ℕ → Option BuildError
refusal_with p base d manifests size range =
    first_refusal ((place_tests p ++ (refuse_if (nat_lt MAX_MANIFESTS manifests) (TooManyManifests manifests) ∷ refuse_if (nat_lt MAX_STORE_LEN size) (StoreTooLarge size) ∷ refuse_if (nat_le FILE_LEN_LIMIT (base + range))
    (MediaRefused FileTooLarge (base + range)) ∷ box_tests p)) ++ reserve_tests d parts)

-- ---- what is known of the media

-- The media of a worked build: no test fails at its place, of the build into it or of that into the file that comes of it.
pub record IsWorked (film : Bool) (file : List ℕ) (p : Place) : Type 0 where
  pub free : IsFreePlace file p
  pub container : (bytes : List ℕ) → is_bmff (place_file file p bytes) ≡ film
  pub passes : first_refusal (late_tests (fresh_ground file defined) parts p) ≡ None
  pub passes_over : refusal_with p (length file) second 2 (total (no_binding p)) (range_of p (total (no_binding p)))
      ≡ None
  pub left : IsLeftAgain file p

-- what is known of the numbers of the first build
numbers : {film : Bool} {file : List ℕ} {p : Place} → IsWorked film file p → PassNumbers (fresh_ground file defined) p
numbers {film} {file} {p} w =
    pass_numbers (fresh_ground file defined) p
    (none_of_both (ground_tests (fresh_ground file defined) p) (reserve_tests defined parts) w.passes).0

-- the first store can be put in
can_put : {film : Bool} {file : List ℕ} {p : Place} → IsWorked film file p → (padded : List ℕ) → length padded ≡ 64
    → CanPut first (length padded) file p
can_put {film} {file} {p} w padded filled =
    let n = numbers w in
    record {
      place = w.free;
      room = n.room;
      small = subst (λ (k : ℕ). store_len p first k ≤ MAX_STORE_LEN) (sym filled) n.small;
      fits = subst (λ (k : ℕ). length file + range_len p first k < FILE_LEN_LIMIT) (sym filled) n.fits;
    }

-- The first build, with the message that is signed and what is put in.
record IsFirst (hash : Alg → List ℕ → List ℕ) (file : List ℕ) (p : Place) (padded bytes : List ℕ) : Type 0 where
  signed : IsSigned parts 64 padded
  put : put_bytes p (tree_bytes (older (hash Sha256) padded file p)) ≡ Some bytes

-- the first file meets all rules but verdicts
older_meets : (hash : Alg → List ℕ → List ℕ) → GivesDigests hash → {film : Bool} {file : List ℕ} {p : Place}
    → IsWorked film file p → (padded bytes : List ℕ) (f : IsFirst hash file p padded bytes)
    → MeetsTheRules hash (place_file file p bytes) (place_start p) (range_len p first (length padded)) (older (hash Sha256) padded file p) (place_question (hash Sha256) first (length padded) file p (padded_read parts (fill_pairs f.signed.fill)) ∷ [])
older_meets hash digests {film} {file} {p} w padded bytes f =
    a_file_built_in_its_place_meets_the_rules_fresh hash first padded file bytes p
    (padded_read parts (fill_pairs f.signed.fill)) digests
    (record { carried = refl; ingredients = refl; redact = refl })
    (record { formed = definitions_are_well_formed definition_file defined is_defined; texts = texts })
    (can_put w padded f.signed.filled) f.signed.spelled f.put

-- ---- its check

-- the first store has one manifest, so it is read as one
older_reading : (hash : List ℕ → List ℕ) (padded file : List ℕ) (p : Place) (rs : List Reading)
    → AllZip IsReading (manifests_of (older hash padded file p)) rs
    → IsOneReading (manifest_of (manifest hash padded file p)) rs
older_reading hash padded file p rs h =
    one_reading (manifest_of (manifest hash padded file p)) rs
    (subst (λ (ms : List Manifest). AllZip IsReading ms rs) (same_manifests (older hash padded file p)) h)

-- which doesn't have the second label
label_free : (m : Manifest) (rs : List Reading) → m.label ≡ Some defined.label → IsOneReading m rs
    → has_manifest rs second.label ≡ false
label_free m rs label h = ap (λ (xs : List Reading). has_manifest xs second.label) h.are ∙ by h.reading h.same
  where
    by : (r : Reading) → r.manifest ≡ m → has_manifest (r ∷ []) second.label ≡ false
    by r same =
        ap
        (λ (o : Option (List ℕ)). list_any (λ (x : Option (List ℕ)). bytes_eq (unwrap_or x []) second.label) (o ∷ []))
        (ap (λ (k : Manifest). k.label) same ∙ label)

-- ---- what goes into the second store

-- the signature box of the first manifest
abbrev signature : List ℕ → Tree
signature padded = item_box (codes "c2cs") (codes "c2pa.signature") padded

-- the parent, as it stands in the new store
abbrev parent : (List ℕ → List ℕ) → List ℕ → List ℕ → Place → NamedManifest
parent hash padded file p =
    record
    { label = defined.label; contents = contents_of (manifest hash padded file p); signed = contents_of (signature padded) }

-- what goes into the second store
abbrev over : (List ℕ → List ℕ) → List ℕ → List ℕ → Place → Content
over hash padded file p = content (parent hash padded file p) (manifest hash padded file p)

-- the boxes of the first store stay as they are
carried_is : (hash : List ℕ → List ℕ) (padded file : List ℕ) (p : Place)
    → more (manifest hash padded file p) none ≡ redacted_boxes [] (boxes_in (older hash padded file p))
carried_is hash padded file p = refl

-- this goes in
is_over : (hash : List ℕ → List ℕ) (padded file : List ℕ) (p : Place)
    → IsContentOver second (older hash padded file p) (over hash padded file p)
is_over hash padded file p = record {
  definition = refl;
  carried = carried_is hash padded file p;
  parent = parent hash padded file p;
  ingredients = refl;
  is_parent =
      record
      { active = manifest hash padded file p; is_active = refl; label = refl; contents = refl; signature = signature padded; is_signature = refl; signed = refl };
}

-- ---- its length

-- a store's length in such a place is that of one with no digest in its binding
length_in : (p : Place) (c : Content) (reserve : ℕ)
    → store_len p c reserve ≡ length (tree_bytes (store_box c.carried (new_manifest (no_digest (new_alg c.definition)) c (no_binding_by (new_alg c.definition) p) (replicate reserve 0))))
length_in (in_segments segments number) c reserve = refl
length_in (in_boxes roots) c reserve = refl

-- what is put in is as long as its range
range_is : (p : Place) (c : Content) (reserve : ℕ) → range_len p c reserve ≡ range_of p (store_len p c reserve)
range_is (in_segments segments number) c reserve = refl
range_is (in_boxes roots) c reserve = refl

-- the second manifest's length doesn't depend on the first one's bytes
second_len : (b : NewAssertion) (p : NamedManifest) (m : Tree) → p.label ≡ defined.label
    → length (tree_bytes (second_manifest b p m)) ≡ length (tree_bytes (second_manifest b any_parent (first_manifest b)))
second_len b p m label =
    ap
    (λ (x : List ℕ). length (tree_bytes (second_manifest b (record { label = x; contents = []; signed = [] }) (first_manifest b))))
    label

-- the first manifest is as long as one without digests
first_len : (hash : Alg → List ℕ → List ℕ) → GivesDigests hash → (padded file : List ℕ) (p : Place)
    → length padded ≡ 64
    → length (tree_bytes (manifest (hash Sha256) padded file p)) ≡ length (tree_bytes (first_manifest (no_binding p)))
first_len hash digests padded file p filled =
    let same : length (tree_bytes (older (hash Sha256) padded file p)) ≡ store_len p first (length padded) =
    a_new_store_has_one_length_in_its_place (hash Sha256) first p (range_len p first (length padded))
    (hash Sha256 (bound_text file p)) padded (λ text. (digests Sha256 text).sized)
    (digests Sha256 (bound_text file p)).sized in
    by (manifest (hash Sha256) padded file p) (first_manifest (no_binding p))
    (same ∙ ap (store_len p first) filled ∙ length_in p first 64)
  where
    by : (m n : Tree) → length (tree_bytes (store_box none m)) ≡ length (tree_bytes (store_box none n))
        → length (tree_bytes m) ≡ length (tree_bytes n)
    by m n e = omega (arith, e, store_len_is none m, store_len_is none n)

-- the second store has so many bytes, with or without digests
over_size : (hash : Alg → List ℕ → List ℕ) → GivesDigests hash → (padded file : List ℕ) (p : Place)
    → length padded ≡ 64 → store_len p (over (hash Sha256) padded file p) 64 ≡ total (no_binding p)
over_size hash digests padded file p filled =
    length_in p (over (hash Sha256) padded file p) 64
    ∙ by (no_binding p) (parent (hash Sha256) padded file p) (manifest (hash Sha256) padded file p) refl
    (first_len hash digests padded file p filled)
  where
    by : (b : NewAssertion) (q : NamedManifest) (m : Tree) → q.label ≡ defined.label
        → length (tree_bytes m) ≡ length (tree_bytes (first_manifest b))
        → length (tree_bytes (store_box (more m none) (second_manifest b q m))) ≡ total b
    by b q m label e =
        let all : length (tree_bytes (store_box (more m none) (second_manifest b q m))) ≡ 38 + length (tree_bytes m ++ []) + length (tree_bytes (second_manifest b q m)) =
        store_len_is (more m none) (second_manifest b q m) in
        let one : length (tree_bytes m ++ []) ≡ length (tree_bytes m) = ap length (append-nil (tree_bytes m)) in
        all
        ∙ (ap (λ (n : ℕ). 38 + n + length (tree_bytes (second_manifest b q m))) (one ∙ e) ∙ ap (λ (n : ℕ). 38 + length (tree_bytes (first_manifest b)) + n) (second_len b q m label))

-- ---- the tests

-- no test fails over a ground with one manifest and a store of so many bytes
over_passes : {film : Bool} {file : List ℕ} {p : Place} → IsWorked film file p → (c : Content) (n : ℕ)
    → c.definition ≡ second → n ≡ 1 → store_len p c 64 ≡ total (no_binding p)
    → first_refusal (late_tests (ground_of file c (n + 1)) parts p) ≡ None
over_passes {film} {file} {p} w c n own one size =
    ap (λ (d : Definition). refusal_with p (length file) d (n + 1) (store_len p c d.reserve) (range_len p c d.reserve))
    own
    ∙ (ap (λ (k : ℕ). refusal_with p (length file) second (k + 1) (store_len p c 64) (range_len p c 64)) one
    ∙ (ap (refusal_with p (length file) second 2 (store_len p c 64)) (range_is p c 64)
    ∙ (ap (λ (k : ℕ). refusal_with p (length file) second 2 k (range_of p k)) size ∙ w.passes_over)))

-- ---- the build

-- what the second build is over
abbrev ground : (List ℕ → List ℕ) → List ℕ → List ℕ → Place → ℕ → Ground
ground hash padded file p n = ground_of file (over hash padded file p) (n + 1)

-- the first file is this to the second build
older_ground : (hash : Alg → List ℕ → List ℕ) (said : Question → Verdict) → GivesDigests hash
    → ((q : Question) → said q ≡ Approved) → {film : Bool} {file : List ℕ} {p : Place} → IsWorked film file p
    → (padded bytes : List ℕ) → IsFirst hash file p padded bytes
    → (n : ℕ) × (n ≡ 1) × IsGroundStage hash said (place_file file p bytes) second (stored (place_start p) (range_len p first (length padded)) (older (hash Sha256) padded file p)) (Ok (ground (hash Sha256) padded file p n))
older_ground hash said digests all {film} {file} {p} w padded bytes f =
    let t : Tree = older (hash Sha256) padded file p in
    let len : ℕ = range_len p first (length padded) in
    let m = older_meets hash digests w padded bytes f in
    let r : StoreReading = m.reading in
    let found : Option Failing = first_failing (check_list hash said r) in
    let valid : IsValid hash said r =
    approved_is_valid hash said (manifests_of t) r m.reads.reads.each m.holds
    (all_approved said all (questions r.readings)) in
    let none_found : found ≡ None = no_failing (check_list hash said r) valid in
    let one = older_reading (hash Sha256) padded file p r.readings m.reads.reads.each in
    let free : has_manifest r.readings second.label ≡ false =
    label_free (manifest_of (manifest (hash Sha256) padded file p)) r.readings refl one in
    let passes : first_refusal (older_tests second r.readings found) ≡ None =
    ap (λ (o : Option Failing). first_refusal (older_tests second r.readings o)) none_found ∙ ap (λ (b : Bool). first_refusal (refuse_if b (LabelTaken second.label) ∷ [])) free in
    let left =
    w.left (hash Sha256) padded bytes (λ text. (digests Sha256 text).sized) (can_put w padded f.signed.filled) f.put in
    let g : Ground = ground (hash Sha256) padded file p (length r.readings) in (
      length r.readings,
      ap (λ (rs : List Reading). length rs) one.are,
      (
        r,
        m.reads,
        unless_some_passes (first_refusal (older_tests second r.readings found)) (IsGroundOver (place_file file p bytes) second (place_start p) len t r.readings) (Ok g) passes
            (over (hash Sha256) padded file p, is_over (hash Sha256) padded file p, (file, left, refl)),
      ),
    )

-- a build over a store in such a file
abbrev pub SucceedsOver : Bool → (Alg → List ℕ → List ℕ) → (Question → Verdict) → Type 0
SucceedsOver film hash said =
    (media : List ℕ) × (definition : List ℕ) × (message : List ℕ) × (b : Built) × (is_bmff media ≡ film)
    × ((start : ℕ) × (len : ℕ) × (old : Tree) × IsMediaStage media (Ok (stored start len old)))
    × HasTextsIn definition × IsEmbedded hash said media definition message (Ok b)

-- a build into the first file succeeds
pub over_succeeds : (hash : Alg → List ℕ → List ℕ) (said : Question → Verdict) → GivesDigests hash
    → ((q : Question) → said q ≡ Approved) → {film : Bool} {base : List ℕ} {p : Place} → IsWorked film base p
    → SucceedsOver film hash said
over_succeeds hash said digests all {film} {base} {p} w =
    let filled = signed in
    let padded : List ℕ = filled.0 in
    let t : Tree = older (hash Sha256) padded base p in
    let room : HasRoom p = (numbers w).room in
    let put = some_bytes p room (tree_bytes t) in
    let f : IsFirst hash base p padded put.0 = record { signed = filled.1; put = put.1 } in
    let file : List ℕ = place_file base p put.0 in
    let len : ℕ = range_len p first (length padded) in
    let kind : MediaKind = stored (place_start p) len t in
    let opened : IsMediaStage file (Ok kind) =
    (here (place_start p) len t, (older_meets hash digests w padded put.0 f).opened, refl) in
    let stage = older_ground hash said digests all w padded put.0 f in
    let g : Ground = ground (hash Sha256) padded base p stage.0 in
    let passes : first_refusal (late_tests g parts p) ≡ None =
    over_passes w (over (hash Sha256) padded base p) stage.0 refl stage.1
    (over_size hash digests padded base p filled.1.filled) in
    let bytes = some_bytes p room (tree_bytes (place_store (hash Sha256) g.content padded base p)) in
    let b : Built = built_of g p bytes.0 in
    let is_built : IsBuilt hash g p parts (Ok b) = (padded, filled.1, (bytes.0, bytes.1, refl)) in
    let embedded : IsEmbedded hash said file second_file message (Ok b) =
    then_next (IsMediaStage file) _ kind (Ok b) opened
    (then_next (IsDefinitionStage second_file) _ second (Ok b) (Ok second, is_second, refl)
    (then_next (IsMessageStage second.protected message) _ parts (Ok b) (Ok parts, (accepted_message, spelled), refl)
    (then_next (IsGroundStage hash said file second kind) (IsEmbeddedOn hash parts) g (Ok b) stage.2
    (then_next (IsPlaceStage base) _ p (Ok b) (p, w.free.is, refl)
    (unless_some_passes (first_refusal (late_tests g parts p)) (IsBuilt hash g p parts) (Ok b) passes is_built))))) in
    (file, second_file, message, b, w.container put.0, (place_start p, len, t, opened), second_texts_in, embedded)
