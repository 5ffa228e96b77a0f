-- Both files together, by what was read of them.
use Rattle.c2_collect_spec.proofs.TheLaws.{what_is_collected_is_one_some, what_is_joined_is_reached_reached}
use Rattle.std.proofs.Common.{◌≡◌, ℕ, ◌<◌, Bool, List, [], ◌∷◌, length, map, Option, None, Some, refl, sym, ap, ◌∙◌, subst}
use Rattle.std.specs.Prelude.{Err, Ok}
use Rattle.std.specs.List.{AllZip}
use Rattle.std.specs.declared.alloc.Global.{Global}
use Rattle.std.specs.declared.vec.Vec.{Vec}
use Rattle.c2_lemmas.specs.Stages.{Unless}
use Rattle.c2_lemmas.proofs.Stages.{unless_passes}
use Rattle.c2_lemmas.proofs.Lists.{both_none}
use Rattle.c2_spec.specs.Jumbf.Tree.{Trees, trees_bytes}
use Rattle.c2_spec.specs.declared.digest.Alg.{Alg}
use Rattle.c2_rules.specs.Chains.{is_reached}
use Rattle.c2_rules.specs.Readings.{Reading}
use Rattle.c2_chain_spec.specs.Joined.{has_manifest}
use Rattle.c2_chain_spec.specs.Rooted.{is_reached_from}
use Rattle.c2_definition.specs.declared.types.Definition.{Definition}
use Rattle.c2_definition.specs.declared.types.NewAssertion.{NewAssertion}
use Rattle.c2_new_file_spec.specs.Manifests.{supers_in}
use Rattle.c2_new_file_spec.specs.Built.{HasDigestLen}
use Rattle.c2_new_file_spec.specs.Store.{Content, NamedManifest, ingredient_assertion, new_alg}
use Rattle.c2_new_file_spec.specs.Written.{AreIngredients}
use Rattle.c2_new_file_spec.specs.Redacting.{redacted_boxes}
use Rattle.c2_without_store.specs.declared.clearing.Clearing.{Clearing}
use Rattle.c2_collect_spec.specs.Collected.{CanCollect, CanJoin, CollectsFrom, IsNamedAt, JoinedReaches, collected_boxes, collected_ingredients, collected_readings, collected_roots}
use Rattle.c2_collect_spec.specs.Order.{CollectRefusal, MediaFile, OtherFile, label_clash, label_refusals, label_taken, redaction_refused}
use Rattle.c2_collect_spec.specs.Outcomes.{IsJoinedStage, pair_of}
use Rattle.c2_collect_spec.specs.Refusals.{redaction_refusal_by}
use Rattle.c2_collect_spec.specs.Sides.{DoNotClash}
use Rattle.c2_collect_spec.proofs.Contents.{ingredients_ok}
use Rattle.c2_collect_spec.proofs.Order.{none_told}
use Rattle.c2_build_refusals.specs.Kinds.{WithoutFault}
use Rattle.c2_build_refusals.specs.declared.error.BuildError.{BuildError}
use Rattle.c2_build_refusals.specs.declared.types.BuildBase.{BuildBase}
use Rattle.c2_build_refusals.proofs.Outside.{outside_map}
use Rattle.c2_build_base.specs.Grounds.{IsSomeGround}
use Rattle.c2_build_collect_base.specs.Errors.{IsRefusedWith}
use Rattle.c2_build_collect_base.specs.Grounds.{IsGroundOf}
use Rattle.c2_build_collect_base.specs.Steps.{AreJoined, IsClashError, IsFirstError, IsOurs, IsReadOrNone, IsTheirs, NameLast, boxes_of, ingredient_stores, joined_tests, old_boxes, old_readings, readings_of}
use Rattle.c2_build_collect_base.specs.declared.joining.JoinedBoxes.{JoinedBoxes}
use Rattle.c2_build_collect_base.specs.declared.stores.Ours.{Ours}
use Rattle.c2_build_collect_base.specs.declared.stores.ReadStore.{ReadStore}
use Rattle.c2_build_collect_base.proofs.Boxed.{some_read}
use Rattle.c2_build_collect_base.proofs.Lasts.{IsLastLeft, IsNamedLeft, both_last, one_last_alone}
use Rattle.c2_collect_spec.proofs.Order.{test_false}

-- ---- stages

-- two files don't clash
abbrev pub FilesApart : MediaFile → OtherFile → Type 0
FilesApart m o = DoNotClash (supers_in m.boxes) (is_reached m.readings) (supers_in o.boxes) (is_reached o.readings)

-- what is refused of their joined manifests
abbrev pub file_tests : Definition → MediaFile → OtherFile → List CollectRefusal
file_tests d m o =
    joined_tests d (collected_readings m.readings o.readings)
    (is_reached_from (collected_readings m.readings o.readings) (collected_roots m.readings o.readings))

-- what holds of the stores that were read holds of what both files are
at_files :
    (P : Trees → List Reading → Trees → List Reading → Type 0) (hash : Alg → List ℕ → List ℕ) (file : List ℕ)
    (ours : Ours) (s : ReadStore) (m : MediaFile) (o : OtherFile)
    → IsOurs hash file ours m → IsTheirs hash s o
    → P (old_boxes ours.store) (old_readings ours.store) (boxes_of s) (readings_of s)
    → P m.boxes m.readings o.boxes o.readings
at_files P hash file ours s m o h k p =
    subst (λ (x : List Reading). P m.boxes m.readings o.boxes x) (sym k.readings)
    (subst (λ (x : Trees). P m.boxes m.readings x (readings_of s)) (sym k.boxes)
    (subst (λ (x : List Reading). P m.boxes x (boxes_of s) (readings_of s)) (sym h.readings)
    (subst (λ (x : Trees). P x (old_readings ours.store) (boxes_of s) (readings_of s)) (sym h.boxes) p)))

-- the error of a clash
pub clash_stage :
    (d : Definition) (hash : Alg → List ℕ → List ℕ) (file : List ℕ) (ours : Ours) (s : ReadStore) (m : MediaFile)
    (o : OtherFile) (e : BuildError)
    → IsOurs hash file ours m → IsTheirs hash s o
    → WithoutFault e (IsClashError (old_boxes ours.store) (old_readings ours.store) (boxes_of s) (readings_of s) e)
    → WithoutFault e (IsRefusedWith (IsJoinedStage d m o) e)
clash_stage d hash file ours s m o e h k clash =
    outside_map e
    (λ (c : IsClashError m.boxes m.readings o.boxes o.readings e). (label_clash c.0, (Some c.0, c.1, refl), c.2))
    (at_files (λ old old_rs other other_rs. WithoutFault e (IsClashError old old_rs other other_rs e)) hash file ours s m o h k clash)

-- the error of a test of both files that don't clash
pub test_stage : (d : Definition) (m : MediaFile) (o : OtherFile) (e : BuildError) → FilesApart m o
    → WithoutFault e (IsFirstError (file_tests d m o) e) → WithoutFault e (IsRefusedWith (IsJoinedStage d m o) e)
test_stage d m o e apart h =
    outside_map e (λ (f : IsFirstError (file_tests d m o) e). (
      f.0,
      (None, apart, subst (λ (es : List CollectRefusal). Unless es (λ r. r ≡ Ok (pair_of m o None)) (Err f.0)) (sym f.2) refl),
      f.3,
    )) h

-- both files pass where they don't clash and no test fails
passed_stage : (d : Definition) (m : MediaFile) (o : OtherFile) → FilesApart m o → file_tests d m o ≡ []
    → IsJoinedStage d m o (Ok (pair_of m o None))
passed_stage d m o apart none =
    (None, apart, unless_passes (file_tests d m o) (λ r. r ≡ Ok (pair_of m o None)) (Ok (pair_of m o None)) none refl)

-- both files can be joined where they don't clash
pub can_join :
    (hash : Alg → List ℕ → List ℕ) (file : List ℕ) (ours : Ours) (s : ReadStore) (m : MediaFile) (o : OtherFile)
    → IsOurs hash file ours m → IsTheirs hash s o → FilesApart m o → CanJoin hash m.boxes o.boxes m.readings o.readings
can_join hash file ours s m o h k apart =
    record { old_store = h.rooted; other_store = k.rooted; some = k.some; apart = apart }

-- both files can be collected where they can be joined and no test of them fails
can_collect : (hash : Alg → List ℕ → List ℕ) (d : Definition) (m : MediaFile) (o : OtherFile)
    → CanJoin hash m.boxes o.boxes m.readings o.readings → file_tests d m o ≡ []
    → CanCollect hash d m.boxes o.boxes m.readings o.readings
can_collect hash d m o joins none =
    let js : List Reading = collected_readings m.readings o.readings in
    let both = both_none (label_refusals d.label js) _ none in
    record {
      joins = joins;
      label = test_false (has_manifest js d.label) (label_taken d.label) both.0;
      redactions =
          none_told redaction_refused
          (redaction_refusal_by (is_reached_from js (collected_roots m.readings o.readings)) d.label js d.redact)
          both.1;
    }

-- what was tested of the stores that were read, by what is reached of them joined, was tested of both files
joined_tested :
    (P : List CollectRefusal → Type 0) (hash : Alg → List ℕ → List ℕ) (file : List ℕ) (d : Definition) (ours : Ours)
    (s : ReadStore) (m : MediaFile) (o : OtherFile)
    → IsOurs hash file ours m → IsTheirs hash s o → FilesApart m o
    → ((is_in : ℕ → Bool) → JoinedReaches (old_readings ours.store) (readings_of s) is_in → P (joined_tests d (collected_readings (old_readings ours.store) (readings_of s)) is_in))
    → P (file_tests d m o)
joined_tested P hash file d ours s m o h k apart tested =
    at_files
    (λ old old_rs other other_rs. (is_in : ℕ → Bool) → JoinedReaches old_rs other_rs is_in → P (joined_tests d (collected_readings old_rs other_rs) is_in))
    hash file ours s m o h k tested
    (is_reached_from (collected_readings m.readings o.readings) (collected_roots m.readings o.readings))
    (what_is_joined_is_reached_reached hash m.boxes o.boxes m.readings o.readings
    (can_join hash file ours s m o h k apart))

-- this refuses
pub tests_refuse :
    (hash : Alg → List ℕ → List ℕ) (file : List ℕ) (d : Definition) (ours : Ours) (s : ReadStore) (m : MediaFile)
    (o : OtherFile) (e : BuildError)
    → IsOurs hash file ours m → IsTheirs hash s o → FilesApart m o
    → ((is_in : ℕ → Bool) → JoinedReaches (old_readings ours.store) (readings_of s) is_in → WithoutFault e (IsFirstError (joined_tests d (collected_readings (old_readings ours.store) (readings_of s)) is_in) e))
    → WithoutFault e (IsFirstError (file_tests d m o) e)
tests_refuse hash file d ours s m o e h k apart tested =
    joined_tested (λ es. WithoutFault e (IsFirstError es e)) hash file d ours s m o h k apart tested

-- nothing does
pub tests_pass :
    (hash : Alg → List ℕ → List ℕ) (file : List ℕ) (d : Definition) (ours : Ours) (s : ReadStore) (m : MediaFile)
    (o : OtherFile)
    → IsOurs hash file ours m → IsTheirs hash s o → FilesApart m o
    → ((is_in : ℕ → Bool) → JoinedReaches (old_readings ours.store) (readings_of s) is_in → joined_tests d (collected_readings (old_readings ours.store) (readings_of s)) is_in ≡ [])
    → file_tests d m o ≡ []
tests_pass hash file d ours s m o h k apart tested =
    joined_tested (λ es. es ≡ []) hash file d ours s m o h k apart tested

-- both files don't clash where their boxes were joined
pub joined_apart :
    (hash : Alg → List ℕ → List ℕ) (file : List ℕ) (redacts : List (List ℕ)) (ours : Ours) (s : ReadStore)
    (m : MediaFile) (o : OtherFile) (j : JoinedBoxes)
    → IsOurs hash file ours m → IsTheirs hash s o
    → AreJoined redacts (old_boxes ours.store) (old_readings ours.store) (boxes_of s) (readings_of s) j → FilesApart m o
joined_apart hash file redacts ours s m o j h k joined =
    (at_files (λ old old_rs other other_rs. AreJoined redacts old old_rs other other_rs j) hash file ours s m o h k joined).apart

-- ---- ingredients

-- the ingredients of the new store name the last manifests of the stores that were read
names_lasts :
    (hash : Alg → List ℕ → List ℕ) (redacts : List (List ℕ)) (old : Option ReadStore) (s : ReadStore) (m : MediaFile)
    (o : OtherFile) (ps : List NamedManifest)
    → CanJoin hash m.boxes o.boxes m.readings o.readings
    → m.boxes ≡ old_boxes old → m.readings ≡ old_readings old → o.boxes ≡ boxes_of s → IsReadOrNone old
    → AllZip (IsNamedLeft redacts m.boxes o.boxes o.readings) ps (collected_roots m.readings o.readings)
    → AllZip (IsLastLeft redacts) ps (ingredient_stores old s)
names_lasts hash redacts None s m o ps can boxes readings theirs read h =
    subst (λ (x : Trees). AllZip (IsLastLeft redacts) ps (x ∷ [])) theirs
    (one_last_alone hash redacts m.boxes o.boxes m.readings o.readings ps can readings h)
names_lasts hash redacts (Some old) s m o ps can boxes readings theirs read h =
    subst (λ (x : Trees). AllZip (IsLastLeft redacts) ps (boxes_of old ∷ x ∷ [])) theirs
    (subst (λ (x : Trees). AllZip (IsLastLeft redacts) ps (x ∷ o.boxes ∷ [])) boxes
    (both_last hash redacts m.boxes o.boxes m.readings o.readings ps can (subst (λ (rs : List Reading). 0 < length rs) (sym readings) (some_read old read)) h))

-- ---- the ground

-- what is kept of these
abbrev pub kept_of : Clearing → JoinedBoxes → Vec NewAssertion Global → BuildBase
kept_of clearing j made =
    record { clearing = clearing; carried = record { boxes = j.boxes; ingredients = made }; manifests = j.manifests }

-- what is built over, whatever is known of both files
pub some_kept :
    (of : List ℕ → List ℕ) (d : Definition) (clearing : Clearing) (ours : Ours) (s : ReadStore) (j : JoinedBoxes)
    (made : Vec NewAssertion Global)
    → HasDigestLen (new_alg d) of
    → AreJoined d.redact (old_boxes ours.store) (old_readings ours.store) (boxes_of s) (readings_of s) j
    → NameLast of d.redact (ingredient_stores ours.store s) made.items
    → IsSomeGround of d clearing (kept_of clearing j made)
some_kept of d clearing ours s j made digests joined names = record {
  content =
      record
      { definition = d; carried = redacted_boxes d.redact (collected_boxes (old_boxes ours.store) (boxes_of s) (readings_of s)); ingredients = collected_ingredients names.named };
  is =
      record
      { definition = refl; boxes = joined.boxes; assertions = names.are; ingredients = ingredients_ok names.named; digests = digests };
  clears = refl;
}

-- both files, which may be collected, are something to build over, whatever is known of them
pub joined_ground :
    (of : List ℕ → List ℕ) (hash : Alg → List ℕ → List ℕ) (file : List ℕ) (d : Definition) (ours : Ours)
    (s : ReadStore) (m : MediaFile) (o : OtherFile) (j : JoinedBoxes) (made : Vec NewAssertion Global)
    → HasDigestLen (new_alg d) of → IsOurs hash file ours m → IsTheirs hash s o → IsReadOrNone ours.store
    → AreJoined d.redact (old_boxes ours.store) (old_readings ours.store) (boxes_of s) (readings_of s) j
    → NameLast of d.redact (ingredient_stores ours.store s) made.items → file_tests d m o ≡ []
    → IsGroundOf of file d (IsJoinedStage d m o) (Ok (kept_of ours.clearing j made))
joined_ground of hash file d ours s m o j made digests h k read joined names none = (
  pair_of m o None,
  passed_stage d m o here.apart none,
  record {
    base = h.base;
    content = content.0;
    collects = content.1;
    is = record {
      definition = content.1.definition;
      boxes = here.boxes ∙ ap trees_bytes (sym content.1.carried);
      assertions = names.are ∙ ap (λ (ps : List NamedManifest). map (ingredient_assertion of) (collected_ingredients ps)) (sym same)
          ∙ ap (map (ingredient_assertion of)) (sym content.1.ingredients);
      ingredients = subst (λ gs. AreIngredients gs) (sym content.1.ingredients) (ingredients_ok content.1.named);
      digests = digests;
    };
    manifests = here.count;
  },
)
  where
    here : AreJoined d.redact m.boxes m.readings o.boxes o.readings j
    here =
        at_files (λ old old_rs other other_rs. AreJoined d.redact old old_rs other other_rs j) hash file ours s m o h k
        joined

    can : CanCollect hash d m.boxes o.boxes m.readings o.readings
    can = can_collect hash d m o (can_join hash file ours s m o h k here.apart) none

    content : (c : Content) × CollectsFrom d m.boxes o.boxes m.readings o.readings c
    content = what_is_collected_is_one_some hash d m.boxes o.boxes m.readings o.readings can

    same : content.1.named ≡ names.named
    same =
        names.only content.1.named
        (names_lasts hash d.redact ours.store s m o content.1.named can.joins h.boxes h.readings k.boxes read
        (subst (λ (x : Trees). AllZip (λ (p : NamedManifest) root. IsNamedAt p (supers_in x) root) content.1.named (collected_roots m.readings o.readings)) content.1.carried content.1.are))
