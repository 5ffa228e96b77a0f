-- What a new file is built over, by what calls of other crates answered.
use Rattle.c2_opening.proofs.TheLaws.{one_opening_file}
use Rattle.std.proofs.Common.{◌≡◌, ℕ, ◌+◌, Bool, true, false, List, [], ◌∷◌, ◌++◌, length, Option, Some, None, refl, sym, ap, ◌∙◌, subst}
use Rattle.std.specs.Prelude.{Result, Ok, Err, IfErr, IfOk, option_map}
use Rattle.c2_lemmas.proofs.Stages.{unless_some_fails, unless_some_passes}
use Rattle.c2_base.specs.declared.values.Question.{Question}
use Rattle.c2_spec.specs.C2pa.Manifest.{manifests_of}
use Rattle.c2_spec.specs.Jumbf.Tree.{Tree, Trees, trees_bytes}
use Rattle.c2_spec.specs.Located.{Opening, here}
use Rattle.c2_spec.specs.declared.digest.Alg.{Alg}
use Rattle.c2_spec.specs.declared.panel.Verdict.{Verdict}
use Rattle.c2_rules.specs.CheckList.{StoreReading, answer_of, check_list, summary_of}
use Rattle.c2_rules.specs.Opened.{IsOpened}
use Rattle.c2_rules.specs.Readings.{AreReadings, Reading}
use Rattle.c2_rules.specs.Tests.{first_failing}
use Rattle.c2_rules.specs.Validated.{IsAnswer, IsFileReading, IsOpenedAnswer}
use Rattle.c2_rules.specs.declared.answer.Answer.{Answer}
use Rattle.c2_rules.specs.declared.answer.Answer.TheVariants as answer
use Rattle.c2_rules.specs.declared.answer.Failing.{Failing}
use Rattle.c2_rules.specs.declared.answer.Summary.{Summary}
use Rattle.c2_definition.specs.declared.types.Definition.{Definition}
use Rattle.c2_new_file_spec.specs.Built.{HasDigestLen}
use Rattle.c2_new_file_spec.specs.Fresh.{fresh_content}
use Rattle.c2_new_file_spec.specs.Manifests.{supers_in}
use Rattle.c2_new_file_spec.specs.Store.{Content, NamedManifest, NewIngredient, ingredient_assertion, new_alg, parent_ingredient}
use Rattle.c2_new_file_spec.proofs.Ingredients.{no_ingredients, parent_alone}
use Rattle.c2_layout.specs.Parts.{IsContent}
use Rattle.c2_layout.specs.declared.carried.Carried.{Carried}
use Rattle.c2_new_file_spec.proofs.ParentLaws.{a_valid_store_is_carried_some}
use Rattle.c2_new_file_spec.specs.Parents.{IsParentOf}
use Rattle.c2_new_file_spec.specs.Redacting.{boxes_in, redacted_boxes}
use Rattle.c2_new_file_spec.specs.Refusing.{has_manifest, redaction_refusal}
use Rattle.c2_new_file_spec.specs.declared.refused.RefusedRedaction.{RefusedRedaction}
use Rattle.c2_without_store.specs.Clears.{cleared}
use Rattle.c2_without_store.specs.declared.clearing.Clearing.{Clearing}
use Rattle.c2_new_file_spec.specs.Bases.{IsLeft}
use Rattle.c2_build_refusals.specs.Kinds.{ComesAs, WithoutFault}
use Rattle.c2_build_refusals.specs.Stages.{IsGroundOver, IsGroundStage, IsMediaStage, fresh, fresh_ground, stored}
use Rattle.c2_build_refusals.specs.Refusals.{Ground, first_refusal, label_tests, older_tests, parent_tests, redaction_tests, refuse_if}
use Rattle.c2_build_base.specs.Grounds.{IsCarriedOver, IsChecked, IsCheckRefusal, IsGround, IsOver, IsOverRefusal}
use Rattle.c2_build_refusals.specs.declared.error.BuildError.{BuildError}
use Rattle.c2_build_refusals.specs.declared.error.BuildError.TheVariants as build
use Rattle.c2_build_refusals.specs.declared.types.BuildBase.{BuildBase}
use Rattle.c2_build_refusals.proofs.Stages.{first_fails, first_passes}
use Rattle.c2_build_refusals.proofs.Passing.{is_passable, opened_here, stands_over}
use Rattle.c2_build_refusals.proofs.Outside.{outside_map}
use Rattle.std.specs.Option.{option_to_list}

-- a content of these
abbrev pub content_of : Definition → Trees → List NewIngredient → Content
content_of d carried ingredients = record { definition = d; carried = carried; ingredients = ingredients }

-- ---- without a store

-- no redaction is refused
no_refusal : (d : Definition) (rs : List Reading) → redaction_refusal d.label rs d.redact ≡ None
    → first_refusal (redaction_tests d rs) ≡ None
no_refusal d rs e =
    ap
    (λ (o : Option RefusedRedaction). first_refusal (option_to_list (option_map (λ (r : RefusedRedaction). refuse_if true (build.RedactionRefused r.text r.code)) o)))
    e

-- this one is
is_refusal : (d : Definition) (rs : List Reading) (r : RefusedRedaction)
    → redaction_refusal d.label rs d.redact ≡ Some r
    → first_refusal (redaction_tests d rs) ≡ Some (build.RedactionRefused r.text r.code)
is_refusal d rs r e =
    ap
    (λ (o : Option RefusedRedaction). first_refusal (option_to_list (option_map (λ (x : RefusedRedaction). refuse_if true (build.RedactionRefused x.text x.code)) o)))
    e

-- a media file without a store is built over as it stands, where no redaction is refused
pub fresh_passed : (hash : Alg → List ℕ → List ℕ) (said : Question → Verdict) (media : List ℕ) (d : Definition)
    → redaction_refusal d.label [] d.redact ≡ None → IsGroundStage hash said media d fresh (Ok (fresh_ground media d))
fresh_passed hash said media d e =
    unless_some_passes (first_refusal (redaction_tests d [])) (λ r. r ≡ Ok (fresh_ground media d))
    (Ok (fresh_ground media d)) (no_refusal d [] e) refl

-- a media file without a store is refused where a redaction is
pub fresh_refused :
    (hash : Alg → List ℕ → List ℕ) (said : Question → Verdict) (media : List ℕ) (d : Definition) (r : RefusedRedaction)
    → redaction_refusal d.label [] d.redact ≡ Some r
    → IsGroundStage hash said media d fresh (Err (build.RedactionRefused r.text r.code))
fresh_refused hash said media d r e =
    unless_some_fails (first_refusal (redaction_tests d [])) (λ x. x ≡ Ok (fresh_ground media d))
    (build.RedactionRefused r.text r.code) (is_refusal d [] r e)

-- what is kept of a definition alone
pub fresh_content_is : (hash : List ℕ → List ℕ) (d : Definition) (k : Carried) → HasDigestLen (new_alg d) hash
    → k.boxes ≡ [] → k.ingredients.items ≡ [] → IsContent hash d k (fresh_content d)
fresh_content_is hash d k digests boxes none =
    record { definition = refl; boxes = boxes; assertions = none; ingredients = no_ingredients; digests = digests }

-- ---- what is carried

-- what was made of a store for a definition is what is carried of it: its parent is this one, and no other where the store has one
pub carried_over :
    (hash : List ℕ → List ℕ) (d : Definition) (old : Tree) (texts : List (List ℕ)) (k : Carried) (p : NamedManifest)
    → HasDigestLen (new_alg d) hash → texts ≡ d.redact → k.boxes ≡ trees_bytes (redacted_boxes texts (boxes_in old))
    → k.ingredients.items ≡ ingredient_assertion hash (parent_ingredient p) ∷ []
    → ((q : NamedManifest) → IsParentOf q (supers_in (redacted_boxes texts (boxes_in old))) → q ≡ p)
    → IsCarriedOver hash d old k
carried_over hash d old texts k p digests same boxes alone only = record {
  content = content_of d (redacted_boxes d.redact (boxes_in old)) (parent_ingredient p ∷ []);
  is = record {
    definition = refl;
    boxes = boxes ∙ ap (λ (ts : List (List ℕ)). trees_bytes (redacted_boxes ts (boxes_in old))) same;
    assertions = alone;
    ingredients = parent_alone p;
    digests = digests;
  };
  only = λ c over.
      let parent : over.parent ≡ p =
      only over.parent
      (subst (λ (ts : Trees). IsParentOf over.parent (supers_in ts)) (over.carried ∙ ap (λ (ts : List (List ℕ)). redacted_boxes ts (boxes_in old)) (sym same)) over.is_parent) in
      ap (λ (x : Definition). content_of x c.carried c.ingredients) over.definition
      ∙ ap (λ (x : Trees). content_of d x c.ingredients) over.carried
      ∙ ap (content_of d (redacted_boxes d.redact (boxes_in old))) (over.ingredients ∙ ap (λ (q : NamedManifest). parent_ingredient q ∷ []) parent);
}

-- a label that is taken refuses
pub taken_over : (d : Definition) (rs : List Reading) (e : BuildError) → has_manifest rs d.label ≡ true
    → WithoutFault e (e ≡ build.LabelTaken d.label) → IsOverRefusal d rs e
taken_over d rs e is h =
    outside_map e
    (λ same. ap (λ (b : Bool). first_refusal (refuse_if b (build.LabelTaken d.label) ∷ redaction_tests d rs)) is ∙ ap Some (sym same))
    h

-- a redaction that can't be made refuses, where the label isn't taken
pub redaction_over : (d : Definition) (rs : List Reading) (r : RefusedRedaction) → has_manifest rs d.label ≡ false
    → redaction_refusal d.label rs d.redact ≡ Some r
    → first_refusal (label_tests d rs ++ redaction_tests d rs) ≡ Some (build.RedactionRefused r.text r.code)
redaction_over d rs r new h =
    ap (λ (b : Bool). first_refusal (refuse_if b (build.LabelTaken d.label) ∷ redaction_tests d rs)) new
    ∙ is_refusal d rs r h

-- ---- over a store

-- the check of a file that has this store answers by its rules
checked_by :
    (hash : Alg → List ℕ → List ℕ) (said : Question → Verdict) (media : List ℕ) (start len : ℕ) (t : Tree) (a : Answer)
    → IsOpened media (here start len t) → IsAnswer hash said media a
    → IsOpenedAnswer hash said media (here start len t) a
checked_by hash said media start len t a opened is =
    subst (λ (o : Opening Tree). IsOpenedAnswer hash said media o a)
    (one_opening_file media is.0 (here start len t) is.1 opened) is.2

-- What is known of a file with a store whose check passed.
pub record IsPast (hash : Alg → List ℕ → List ℕ) (said : Question → Verdict) (media : List ℕ) (t : Tree) : Type 0 where
  pub reading : StoreReading
  pub reads : IsFileReading media t reading
  pub none : first_failing (check_list hash said reading) ≡ None

-- no rule of it failed
pub is_past : (hash : Alg → List ℕ → List ℕ) (said : Question → Verdict) (media : List ℕ) (start len : ℕ) (t : Tree)
    → IsOpened media (here start len t) → IsChecked hash said media → IsPast hash said media t
is_past hash said media start len t opened h =
    let a = checked_by hash said media start len t (answer.Valid h.0) opened h.1 in
    record
    { reading = a.0; reads = a.1; none = by (summary_of (length media) start len a.0) (first_failing (check_list hash said a.0)) a.2 }
  where
    by : (s : Summary) (o : Option Failing) → answer.Valid h.0 ≡ answer_of s o → o ≡ None
    by s None e = refl
    by s (Some f) e = absurd (cc (e))

-- a rule did
failed_stage :
    (hash : Alg → List ℕ → List ℕ) (said : Question → Verdict) (media : List ℕ) (d : Definition) (start len : ℕ)
    (t : Tree) (f : Failing)
    → IsOpened media (here start len t) → IsAnswer hash said media (answer.Failing f)
    → IsGroundStage hash said media d (stored start len t) (Err (build.ParentFails f.code f.uri))
failed_stage hash said media d start len t f opened is =
    let a = checked_by hash said media start len t (answer.Failing f) opened is in
    let s : StoreReading = a.0 in
    let fails : first_failing (check_list hash said s) ≡ Some f =
    by (summary_of (length media) start len s) (first_failing (check_list hash said s)) a.2 in
    let first : first_refusal (parent_tests (first_failing (check_list hash said s))) ≡ Some (build.ParentFails f.code f.uri) =
    ap (λ (o : Option Failing). first_refusal (parent_tests o)) fails in (
      s,
      a.1,
      unless_some_fails (first_refusal (older_tests d s.readings (first_failing (check_list hash said s)))) (IsGroundOver media d start len t s.readings) (build.ParentFails f.code f.uri)
          (first_fails (parent_tests (first_failing (check_list hash said s))) (label_tests d s.readings ++ redaction_tests d s.readings) (build.ParentFails f.code f.uri) first),
    )
  where
    by : (s : Summary) (o : Option Failing) → answer.Failing f ≡ answer_of s o → o ≡ Some f
    by s None e = absurd (cc (e))
    by s (Some g) e = let same : g ≡ f = cc (e) in ap Some same

-- what the check refuses is refused
pub check_stage :
    (hash : Alg → List ℕ → List ℕ) (said : Question → Verdict) (media : List ℕ) (d : Definition) (start len : ℕ)
    (t : Tree) (e : BuildError)
    → IsOpened media (here start len t) → WithoutFault e (IsCheckRefusal hash said media e)
    → WithoutFault e (IsGroundStage hash said media d (stored start len t) (Err e))
check_stage hash said media d start len t e opened h =
    outside_map e
    (λ r. subst (λ (x : BuildError). IsGroundStage hash said media d (stored start len t) (Err x)) (sym r.2) (failed_stage hash said media d start len t r.0 opened r.1))
    h

-- where no rule fails, a test behind it refuses
pub over_stage :
    (hash : Alg → List ℕ → List ℕ) (said : Question → Verdict) (media : List ℕ) (d : Definition) (start len : ℕ)
    (t : Tree) (e : BuildError) (p : IsPast hash said media t)
    → IsOverRefusal d p.reading.readings e
    → WithoutFault e (IsGroundStage hash said media d (stored start len t) (Err e))
over_stage hash said media d start len t e p h =
    let s : StoreReading = p.reading in
    let none : first_refusal (parent_tests (first_failing (check_list hash said s))) ≡ None =
    ap (λ (o : Option Failing). first_refusal (parent_tests o)) p.none in
    outside_map e (λ first. (
      s,
      p.reads,
      unless_some_fails (first_refusal (older_tests d s.readings (first_failing (check_list hash said s)))) (IsGroundOver media d start len t s.readings) e
          (first_passes (parent_tests (first_failing (check_list hash said s))) (label_tests d s.readings ++ redaction_tests d s.readings) (Some e) none first),
    )) h

-- where none does, it is built over what is left of the media
pub over_ground :
    (hash : Alg → List ℕ → List ℕ) (said : Question → Verdict) (media : List ℕ) (d : Definition) (start len : ℕ)
    (t : Tree) (clearing : Clearing) (k : BuildBase) (p : IsPast hash said media t) →
    IsMediaStage media (Ok (stored start len t)) → IsLeft media start len (cleared clearing media)
    → IsOver (hash (new_alg d)) d t clearing p.reading.readings k
    → (g : Ground) × IsGroundStage hash said media d (stored start len t) (Ok g) × IsGround (hash (new_alg d)) media d k g
over_ground hash said media d start len t clearing k p m left h =
    let s : StoreReading = p.reading in
    let rs : List Reading = s.readings in
    let label : first_refusal (label_tests d rs) ≡ None =
    ap (λ (b : Bool). first_refusal (refuse_if b (build.LabelTaken d.label) ∷ [])) h.label in
    let first : first_refusal (parent_tests (first_failing (check_list hash said s))) ≡ None =
    ap (λ (o : Option Failing). first_refusal (parent_tests o)) p.none in
    let none : first_refusal (older_tests d rs (first_failing (check_list hash said s))) ≡ None =
    first_passes (parent_tests (first_failing (check_list hash said s))) (label_tests d rs ++ redaction_tests d rs) None first (first_passes (label_tests d rs) (redaction_tests d rs) None label (no_refusal d rs h.redactions)) in
    let content =
    a_valid_store_is_carried_some hash said d t s
    (stands_over hash said media d start len t s (opened_here media start len t m) p.reads (is_passable hash said d s none)) in
    let c : Content = content.0 in
    let g : Ground = record { base = cleared clearing media; content = c; manifests = length rs + 1 } in
    let same : c ≡ h.carried.content = h.carried.only c content.1 in (
      g,
      (s, p.reads, unless_some_passes (first_refusal (older_tests d rs (first_failing (check_list hash said s)))) (IsGroundOver media d start len t rs) (Ok g) none (c, content.1, (cleared clearing media, left, refl))),
      record {
        base = ap (λ (x : Clearing). cleared x media) (sym h.clears);
        content = subst (IsContent (hash (new_alg d)) d k.carried) (sym same) h.carried.is;
        manifests = sym h.manifests;
      },
    )

-- what is built over a file with this store, by what its tests behind the check answered
pub stored_over :
    (hash : Alg → List ℕ → List ℕ) (said : Question → Verdict) (media : List ℕ) (d : Definition) (start len : ℕ)
    (t : Tree) (clearing : Clearing)
    → IsMediaStage media (Ok (stored start len t)) → IsLeft media start len (cleared clearing media)
    → IsChecked hash said media → (r : Result BuildBase BuildError)
    → ((rs : List Reading) → AreReadings (manifests_of t) rs → IfOk r (IsOver (hash (new_alg d)) d t clearing rs))
    → ((rs : List Reading) → AreReadings (manifests_of t) rs → IfErr r (IsOverRefusal d rs))
    → ComesAs (IsGround (hash (new_alg d)) media d) (IsGroundStage hash said media d (stored start len t)) r
stored_over hash said media d start len t clearing m left checked (Ok k) over bad =
    let p = is_past hash said media start len t (opened_here media start len t m) checked in
    over_ground hash said media d start len t clearing k p m left (over p.reading.readings p.reads.reads.each)
stored_over hash said media d start len t clearing m left checked (Err e) over bad =
    let p = is_past hash said media start len t (opened_here media start len t m) checked in
    over_stage hash said media d start len t e p (bad p.reading.readings p.reads.reads.each)

-- what a store's tests refuse, however its manifests are read
pub over_refused : (d : Definition) (old : Tree) (r : Result BuildBase BuildError) (rs : List Reading)
    → AreReadings (manifests_of old) rs
    → IfErr r (λ e. (rs : List Reading) → AreReadings (manifests_of old) rs → IsOverRefusal d rs e)
    → IfErr r (IsOverRefusal d rs)
over_refused d old (Ok k) rs reads h = tt
over_refused d old (Err e) rs reads h = h rs reads
