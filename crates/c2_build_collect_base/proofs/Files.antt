-- What each of both files is to a new store that collects, by what its check answered.
use Rattle.c2_opening.proofs.TheLaws.{one_opening_file}
use Rattle.c2_read_manifests.proofs.TheLaws.{one_reading_file, one_reading_manifests}
use Rattle.std.proofs.Common.{◌≡◌, ℕ, List, [], ◌∷◌, length, Option, None, Some, refl, sym, ap, ◌∙◌, subst}
use Rattle.std.specs.Prelude.{Err, Ok, Result, option_map}
use Rattle.std.specs.Option.{option_to_list}
use Rattle.c2_lemmas.specs.Stages.{Unless}
use Rattle.c2_lemmas.proofs.Stages.{unless_passes}
use Rattle.c2_base.specs.declared.values.Question.{Question}
use Rattle.c2_spec.specs.C2pa.Manifest.{manifests_of}
use Rattle.c2_spec.specs.Jumbf.Tree.{Tree, none}
use Rattle.c2_spec.specs.Located.{Opening, absent, here, refused}
use Rattle.c2_spec.specs.declared.digest.Alg.{Alg}
use Rattle.c2_spec.specs.declared.panel.Verdict.{Verdict}
use Rattle.c2_rules.specs.CheckList.{StoreReading, answer_of, check_asks, check_list, store_answer, summary_of}
use Rattle.c2_rules.specs.Opened.{IsOpened}
use Rattle.c2_rules.specs.Readings.{AreReadings}
use Rattle.c2_rules.specs.Tests.{first_failing}
use Rattle.c2_rules.specs.Validated.{CheckAsks, IsOpenedAnswer, OpenedAsks}
use Rattle.c2_rules.specs.declared.answer.Answer.{Answer}
use Rattle.c2_rules.specs.declared.answer.Answer.TheVariants as answer
use Rattle.c2_rules.specs.declared.answer.Failing.{Failing}
use Rattle.c2_rules.specs.declared.answer.Summary.{Summary}
use Rattle.c2_new_file_spec.specs.Redacting.{boxes_in}
use Rattle.c2_without_store.specs.Clears.{cleared}
use Rattle.c2_without_store.specs.declared.clearing.Clearing.{Clearing}
use Rattle.c2_new_file_spec.specs.Bases.{IsLeft}
use Rattle.c2_collect_spec.specs.Order.{CollectRefusal, IsMediaFile, IsOtherFile, IsValidAnswer, MediaFile, OtherFile, other_refusals, other_refused, parent_fails, parent_refusals}
use Rattle.c2_collect_spec.specs.Outcomes.{IsOtherStage, IsParentStage}
use Rattle.c2_collect_spec.proofs.Order.{IsOtherStore, media_store, other_store}
use Rattle.c2_collect_spec.proofs.Stores.{none_rooted}
use Rattle.c2_build_refusals.specs.Kinds.{WithoutFault}
use Rattle.c2_build_refusals.specs.declared.error.BuildError.{BuildError}
use Rattle.c2_build_refusals.specs.declared.error.BuildError.TheVariants.{OtherRefused}
use Rattle.c2_build_refusals.proofs.Outside.{outside_map}
use Rattle.c2_build_base.specs.Grounds.{IsCheckRefusal, IsChecked}
use Rattle.c2_build_base.proofs.Grounds.{IsPast, is_past}
use Rattle.c2_build_base.specs.declared.media.OlderStore.{OlderStore}
use Rattle.c2_build_collect_base.specs.Errors.{IsRefusedWith}
use Rattle.c2_build_collect_base.specs.Grounds.{IsParentRefused}
use Rattle.c2_build_collect_base.specs.Steps.{IsOpeningError, IsOtherError, IsOurs, IsReadStore, IsTheirs, IsUnopened, boxes_of, readings_of}
use Rattle.c2_build_collect_base.specs.declared.stores.Ours.{Ours}
use Rattle.c2_build_collect_base.specs.declared.stores.ReadStore.{ReadStore}

-- ---- the other file

-- what another file is whose check answers this
other_file :
    (hash : Alg → List ℕ → List ℕ) (said : Question → Verdict) (file : List ℕ) (what : Opening Tree) (a : Answer)
    → IsOpenedAnswer hash said file what a → (o : OtherFile) × IsOtherFile hash said file what o × (o.answer ≡ a)
other_file hash said file (refused reason number) a h =
    (record { answer = a; boxes = none; readings = [] }, ap (λ (x : Answer). record { answer = x; boxes = none; readings = [] }) h, refl)
other_file hash said file absent a h =
    (record { answer = a; boxes = none; readings = [] }, ap (λ (x : Answer). record { answer = x; boxes = none; readings = [] }) h, refl)
other_file hash said file (here start len t) a h =
    (record { answer = a; boxes = boxes_in t; readings = h.0.readings }, record { reading = h.0; reads = h.1; answer = h.2; boxes = refl; readings = refl }, refl)

-- one that isn't valid is refused
pub other_refuses : (hash : Alg → List ℕ → List ℕ) (said : Question → Verdict) (file : List ℕ) (e : BuildError)
    → WithoutFault e (IsOtherError hash said file e) → WithoutFault e (IsRefusedWith (IsOtherStage hash said file) e)
other_refuses hash said file e h = outside_map e by h
  where
    by : IsOtherError hash said file e → IsRefusedWith (IsOtherStage hash said file) e
    by r =
        let o = other_file hash said file r.1.0 r.0 r.1.2 in
        let told : other_refusals o.0.answer ≡ other_refused r.0 ∷ [] = ap other_refusals o.2 ∙ r.2 in (
          other_refused r.0,
          (r.1.0, r.1.1, (o.0, o.1, subst (λ (es : List CollectRefusal). Unless es (λ s. s ≡ Ok o.0) (Err (other_refused r.0))) (sym told) refl)),
          r.3,
        )

-- what is refused as it is opened
pub unopened_error : (hash : Alg → List ℕ → List ℕ) (said : Question → Verdict) (file : List ℕ) (e : BuildError)
    → IsOpeningError file e → IsOtherError hash said file e
unopened_error hash said file e h = by h.0 h.1 h.2
  where
    by : (a : Answer) → IsUnopened file a → e ≡ OtherRefused a → IsOtherError hash said file e
    by (answer.Valid summary) u is = absurd u
    by (answer.Failing failing) u is = absurd u
    by (answer.Refused reason number) u is = (answer.Refused reason number, (refused reason number, u, refl), refl, is)
    by answer.NoStore u is = (answer.NoStore, (absent, u, refl), refl, is)

-- nothing is asked of it
pub unopened_asks :
    (hash : Alg → List ℕ → List ℕ) (said : Question → Verdict) (file : List ℕ) (e : BuildError) (qs : List Question)
    → IsOpeningError file e → CheckAsks hash said file qs → qs ≡ []
unopened_asks hash said file e qs h asks = by h.0 h.1
  where
    over : (what : Opening Tree) → IsOpened file what → OpenedAsks (check_asks hash said) what qs
    over what opened =
        subst (λ (w : Opening Tree). OpenedAsks (check_asks hash said) w qs)
        (one_opening_file file asks.0 what asks.1 opened) asks.2

    by : (a : Answer) → IsUnopened file a → qs ≡ []
    by (answer.Valid summary) u = absurd u
    by (answer.Failing failing) u = absurd u
    by (answer.Refused reason number) u = over (refused reason number) u
    by answer.NoStore u = over absent u

-- What a valid file is whose store was read so.
pub record IsOtherPassed (hash : Alg → List ℕ → List ℕ) (said : Question → Verdict) (file : List ℕ) (s : ReadStore) : Type 0 where
  pub other : OtherFile
  pub stage : IsOtherStage hash said file (Ok other)
  pub theirs : IsTheirs hash s other

-- one that is valid isn't
pub other_passes :
    (hash : Alg → List ℕ → List ℕ) (said : Question → Verdict) (file : List ℕ) (older : OlderStore) (s : ReadStore)
    → s.older.now ≡ older
    → IsOpened file (here older.range.start older.range.length older.tree) → IsChecked hash said file → IsReadStore s
    → IsOtherPassed hash said file s
other_passes hash said file older s same read_as checked read = record {
  other = o;
  stage =
      (here start len s.older.now.tree, opened, (o, is, unless_passes (other_refusals o.answer) (λ r. r ≡ Ok o) (Ok o) (ap other_refusals valid.1) refl));
  theirs =
      record
      { boxes = refl; readings = one_reading_manifests (manifests_of s.older.now.tree) past.reading.readings (readings_of s) past.reads.reads.each read.reads; rooted = store.rooted; some = store.some };
}
  where
    start : ℕ
    start = older.range.start

    len : ℕ
    len = older.range.length

    opened : IsOpened file (here start len s.older.now.tree)
    opened = subst (λ (o : OlderStore). IsOpened file (here start len o.tree)) (sym same) read_as

    past : IsPast hash said file s.older.now.tree
    past = is_past hash said file start len s.older.now.tree opened checked

    o : OtherFile
    o =
        record
        { answer = store_answer hash said (length file) start len past.reading; boxes = boxes_of s; readings = past.reading.readings }

    is : IsOtherFile hash said file (here start len s.older.now.tree) o
    is = record { reading = past.reading; reads = past.reads; answer = refl; boxes = refl; readings = refl }

    valid : IsValidAnswer o.answer
    valid =
        (summary_of (length file) start len past.reading, ap (answer_of (summary_of (length file) start len past.reading)) past.none)

    store : IsOtherStore hash o
    store = other_store hash said file (here start len s.older.now.tree) o opened is valid

-- ---- the media file

-- What a media file is of whose store no rule fails, or which has none.
pub record IsMediaPassed (hash : Alg → List ℕ → List ℕ) (said : Question → Verdict) (file : List ℕ) (what : Opening Tree) (ours : Ours) : Type 0 where
  pub media : MediaFile
  pub stage : IsParentStage hash said file what (Ok media)
  pub is_ours : IsOurs hash file ours media
  pub only : IsParentRefused hash said file what → ⊥

-- a value is no refusal
not_both : {A : Type 0} (a : A) (r : CollectRefusal) → ◌≡◌ {A = Result A CollectRefusal} (Err r) (Ok a) → ⊥
not_both a r e = cc (e)

-- where nothing is refused of it, it isn't refused
not_refused : (m : MediaFile) (r : CollectRefusal) → parent_refusals m ≡ []
    → Unless (parent_refusals m) (λ s. s ≡ Ok m) (Err r) → ⊥
not_refused m r empty h = not_both m r (subst (λ (es : List CollectRefusal). Unless es (λ s. s ≡ Ok m) (Err r)) empty h)

-- none fails where none is told
no_refusals : (o : Option Failing) → o ≡ None → option_to_list (option_map parent_fails o) ≡ []
no_refusals o e = ap (λ (x : Option Failing). option_to_list (option_map parent_fails x)) e

-- one without a store
pub fresh_passes : (hash : Alg → List ℕ → List ℕ) (said : Question → Verdict) (file : List ℕ) (ours : Ours)
    → ours.store ≡ None → cleared ours.clearing file ≡ file → IsMediaPassed hash said file absent ours
fresh_passes hash said file ours is clear = record {
  media = m;
  stage = (m, refl, refl);
  is_ours = subst (λ (o : Option ReadStore). IsOurs hash file (record { clearing = ours.clearing; store = o }) m) (sym is)
      (record { boxes = refl; readings = refl; base = sym clear; rooted = none_rooted hash });
  only = λ r. not_refused r.1.0 r.0 (ap parent_refusals r.1.1) r.1.2;
}
  where
    m : MediaFile
    m = record { boxes = none; readings = []; failing = None; base = file }

-- one with a store of which no rule fails
pub stored_passes :
    (hash : Alg → List ℕ → List ℕ) (said : Question → Verdict) (file : List ℕ) (older : OlderStore) (s : ReadStore)
    (clearing : Clearing)
    → s.older.now ≡ older
    → IsOpened file (here older.range.start older.range.length older.tree)
    → IsLeft file older.range.start older.range.length (cleared clearing file) → IsChecked hash said file
    → IsReadStore s
    → IsMediaPassed hash said file (here older.range.start older.range.length older.tree) (record { clearing = clearing; store = Some s })
stored_passes hash said file older s clearing same opened left checked read = record {
  media = m;
  stage = (m, is, unless_passes (parent_refusals m) (λ r. r ≡ Ok m) (Ok m) (no_refusals m.failing past.none) refl);
  is_ours = record {
    boxes = ap (λ (o : OlderStore). boxes_in o.tree) (sym same);
    readings =
        one_reading_manifests (manifests_of t) past.reading.readings (readings_of s) past.reads.reads.each
        (subst (λ (o : OlderStore). AreReadings (manifests_of o.tree) (readings_of s)) same read.reads);
    base = refl;
    rooted = media_store hash said file (here start len t) m opened is past.none;
  };
  only = λ r.
      let one_read : r.1.1.reading ≡ past.reading =
      one_reading_file file t r.1.1.reading past.reading r.1.1.reads past.reads in
      not_refused r.1.0 r.0 (no_refusals r.1.0.failing (r.1.1.failing ∙ ap (λ (x : StoreReading). first_failing (check_list hash said x)) one_read ∙ past.none)) r.1.2;
}
  where
    start : ℕ
    start = older.range.start

    len : ℕ
    len = older.range.length

    t : Tree
    t = older.tree

    past : IsPast hash said file t
    past = is_past hash said file start len t opened checked

    m : MediaFile
    m =
        record
        { boxes = boxes_in t; readings = past.reading.readings; failing = first_failing (check_list hash said past.reading); base = cleared clearing file }

    is : IsMediaFile hash said file (here start len t) m
    is =
        record
        { reading = past.reading; reads = past.reads; boxes = refl; readings = refl; failing = refl; left = left }

-- the rule that fails, by what the check answers
told : (summary : Summary) (f : Failing) (o : Option Failing) → answer.Failing f ≡ answer_of summary o → o ≡ Some f
told summary f None h = absurd (cc (h))
told summary f (Some g) h = let same : g ≡ f = cc (h) in ap Some same

-- one of whose store a rule fails
pub parent_refuses :
    (hash : Alg → List ℕ → List ℕ) (said : Question → Verdict) (file : List ℕ) (start len : ℕ) (t : Tree)
    (clearing : Clearing) (e : BuildError)
    → IsOpened file (here start len t)
    → IsLeft file start len (cleared clearing file) → WithoutFault e (IsCheckRefusal hash said file e)
    → WithoutFault e (IsRefusedWith (IsParentStage hash said file (here start len t)) e)
parent_refuses hash said file start len t clearing e opened left h = outside_map e by h
  where
    by : IsCheckRefusal hash said file e → IsRefusedWith (IsParentStage hash said file (here start len t)) e
    by r =
        let a : IsOpenedAnswer hash said file (here start len t) (answer.Failing r.0) =
        subst (λ (o : Opening Tree). IsOpenedAnswer hash said file o (answer.Failing r.0)) (one_opening_file file r.1.0 (here start len t) r.1.1 opened) r.1.2 in
        let s : StoreReading = a.0 in
        let failing : Option Failing = first_failing (check_list hash said s) in
        let fails : failing ≡ Some r.0 = told (summary_of (length file) start len s) r.0 failing a.2 in
        let m : MediaFile =
        record { boxes = boxes_in t; readings = s.readings; failing = failing; base = cleared clearing file } in
        let is : IsMediaFile hash said file (here start len t) m =
        record { reading = s; reads = a.1; boxes = refl; readings = refl; failing = refl; left = left } in
        let refusals : parent_refusals m ≡ parent_fails r.0 ∷ [] =
        ap (λ (x : Option Failing). option_to_list (option_map parent_fails x)) fails in
        (parent_fails r.0, (m, is, subst (λ (es : List CollectRefusal). Unless es (λ x. x ≡ Ok m) (Err (parent_fails r.0))) (sym refusals) refl), r.2)

-- a media file of whose store a rule fails isn't let pass
pub parent_only :
    (hash : Alg → List ℕ → List ℕ) (said : Question → Verdict) (file : List ℕ) (start len : ℕ) (t : Tree)
    (e : BuildError)
    → IsOpened file (here start len t) → IsCheckRefusal hash said file e
    → (m : MediaFile) → IsParentStage hash said file (here start len t) (Ok m) → ⊥
parent_only hash said file start len t e opened r m stage =
    let a : IsOpenedAnswer hash said file (here start len t) (answer.Failing r.0) =
    subst (λ (o : Opening Tree). IsOpenedAnswer hash said file o (answer.Failing r.0)) (one_opening_file file r.1.0 (here start len t) r.1.1 opened) r.1.2 in
    let s : StoreReading = a.0 in
    let failing : Option Failing = first_failing (check_list hash said s) in
    let fails : failing ≡ Some r.0 = told (summary_of (length file) start len s) r.0 failing a.2 in
    let same : stage.1.reading ≡ s = one_reading_file file t stage.1.reading s stage.1.reads a.1 in
    let refusals : parent_refusals stage.0 ≡ parent_fails r.0 ∷ [] =
    ap (λ (x : Option Failing). option_to_list (option_map parent_fails x)) (stage.1.failing ∙ ap (λ (x : StoreReading). first_failing (check_list hash said x)) same ∙ fails) in
    not_both m (parent_fails r.0)
    (sym (subst (λ (es : List CollectRefusal). Unless es (λ x. x ≡ Ok stage.0) (Ok m)) refusals stage.2))
