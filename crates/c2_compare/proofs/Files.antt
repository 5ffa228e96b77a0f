-- A media file that is opened once: what its check answers and asks, and what of it is compared.
use Rattle.c2_read_manifests.proofs.TheLaws.{one_reading_manifests}
use Rattle.c2_opening.proofs.TheLaws.{one_media_read, one_opening_file}
use Rattle.c2_validate.proofs.TheLaws.{a_file_answers_by_what_it_is_opened_as_asks, one_check_answer}
use Rattle.c2_compare_spec.proofs.TheLaws.{accepted_is_valid_accepted, accepted_is_valid_valid}
use Rattle.std.proofs.Common.{◌≡◌, ℕ, false, List, [], Option, Some, Result, refl, sym, ap, ◌∙◌, subst}
use Rattle.std.specs.Option.{option_map_or}
use Rattle.c2_base.specs.declared.values.Question.{Question}
use Rattle.c2_spec.specs.C2pa.Manifest.{manifests_of}
use Rattle.c2_spec.specs.Jumbf.Tree.{Tree}
use Rattle.c2_spec.specs.Located.{Opening, refused, absent, here}
use Rattle.c2_spec.specs.declared.assertion.FieldError.{FieldError}
use Rattle.c2_spec.specs.declared.digest.Alg.{Alg}
use Rattle.c2_spec.specs.declared.panel.Verdict.{Verdict}
use Rattle.c2_spec.specs.declared.reason.Reason.{Reason}
use Rattle.c2_spec.specs.declared.store.ManifestBoxes.{ManifestBoxes}
use Rattle.c2_rules.specs.Binding.{Binding, binding_value}
use Rattle.c2_rules.specs.CheckList.{HasBindingOf, StoreReading, active_in, check_asks}
use Rattle.c2_rules.specs.Opened.{IsOpened}
use Rattle.c2_rules.specs.Readings.{AreReadings, Reading}
use Rattle.c2_rules.specs.Validated.{CheckAsks, IsFileReading, IsOpenedAnswer, OpenedAsks}
use Rattle.c2_rules.specs.declared.answer.Answer.{Answer}
use Rattle.c2_rules.specs.declared.answer.Answer.TheVariants as answer
use Rattle.c2_rules.specs.declared.answer.Failing.{Failing}
use Rattle.c2_rules.specs.declared.answer.Summary.{Summary}
use Rattle.c2_container.specs.Contained.{IsContainerOf}
use Rattle.c2_container.specs.declared.types.Container.{Container}
use Rattle.c2_opening.specs.Opened.{IsFound, IsStoreRead}
use Rattle.c2_opening.specs.declared.types.Media as types
use Rattle.c2_opening.specs.declared.types.Opened.{Opened}
use Rattle.c2_opening.specs.declared.types.Opened.TheVariants as opened
use Rattle.c2_opening.specs.declared.types.StoreRead.{StoreRead}
use Rattle.c2_opening.specs.declared.types.StoreRead.TheVariants as read
use Rattle.c2_hard_binding.specs.declared.bound.BoundText.{BoundText}
use Rattle.c2_compare_spec.specs.Accepted.{IsAccepted, summary_in}
use Rattle.c2_compare_spec.specs.Comparison.{IsRefusedFirst, is_valid}
use Rattle.c2_compare_spec.specs.Differences.{binding_alg}
use Rattle.c2_validate.specs.Checked.{IsCheckedOver, IsOpenedFrom, readings_of}
use Rattle.c2_validate.specs.Validation.{IsAnswered}
use Rattle.c2_validate.specs.declared.checking.Checked.TheVariants as checked
use Rattle.c2_validate.specs.declared.checking.OpenedStore.{OpenedStore}
use Rattle.c2_compare_opened.specs.Sides.{IsCompareSide}
use Rattle.c2_compare.specs.Accepting.{IsStoreless, IsUnaccepted, IsUnopened}
use Rattle.c2_compare.specs.declared.accepting.Unaccepted.{Unaccepted}
use Rattle.c2_compare.specs.declared.accepting.Unaccepted.TheVariants.{Refused, Failed}

-- ---- a file that is opened as no store

-- a file that is opened as no store isn't valid
storeless_invalid : (what : Opening Tree) (a : Answer) → IsStoreless what a → is_valid a ≡ false
storeless_invalid (refused reason number) a h = ap is_valid h
storeless_invalid absent a h = ap is_valid h
storeless_invalid (here start len t) a h = absurd h

-- this is its answer
storeless_answer :
    (hash : Alg → List ℕ → List ℕ) (said : Question → Verdict) (file : List ℕ) (what : Opening Tree) (a : Answer)
    → IsStoreless what a → IsOpenedAnswer hash said file what a
storeless_answer hash said file (refused reason number) a h = h
storeless_answer hash said file absent a h = h
storeless_answer hash said file (here start len t) a h = absurd h

-- nothing is asked of it
storeless_asks : (asks : List Reading → List Question) (what : Opening Tree) (a : Answer) (qs : List Question)
    → IsStoreless what a → OpenedAsks asks what qs → qs ≡ []
storeless_asks asks (refused reason number) a qs h k = k
storeless_asks asks absent a qs h k = k
storeless_asks asks (here start len t) a qs h k = absurd h

-- the check of a file that isn't opened says that it isn't accepted
pub unaccepted_unopened : (hash : Alg → List ℕ → List ℕ) (said : Question → Verdict) (file : List ℕ) (u : Unaccepted)
    → IsUnopened file u → IsUnaccepted hash said file u
unaccepted_unopened hash said file (Refused a) h =
    record { is_answer = (h.0, h.1, storeless_answer hash said file h.0 a h.2); invalid = storeless_invalid h.0 a h.2 }
unaccepted_unopened hash said file (Failed e) h = tt

-- the check of a file that isn't opened asks nothing
pub asks_nobody :
    (hash : Alg → List ℕ → List ℕ) (said : Question → Verdict) (file : List ℕ) (a : Answer) (qs : List Question)
    → IsUnopened file (Refused a) → CheckAsks hash said file qs → qs ≡ []
asks_nobody hash said file a qs h k =
    storeless_asks (check_asks hash said) h.0 a qs h.2
    (a_file_answers_by_what_it_is_opened_as_asks hash said file h.0 qs h.1 k)

-- there is no store
pub unopened_none : (file : List ℕ) (o : Opened) (c : Container) → o ≡ opened.NoStore c → IsFound file o
    → IsUnopened file (Refused answer.NoStore)
unopened_none file o c is h = (absent, (absent, (subst (IsFound file) is h).located, refl), refl)

-- the container is refused
pub unopened_refused : (file : List ℕ) (o : Opened) (reason : Reason) (number : ℕ) → o ≡ opened.Refused reason number
    → IsFound file o → IsUnopened file (Refused (answer.Refused reason number))
unopened_refused file o reason number is h =
    (refused reason number, (refused reason number, (subst (IsFound file) is h).located, refl), refl)

-- the store is refused
pub unopened_read : (file : List ℕ) (m : types.Media) (r : StoreRead) (reason : Reason) (number : ℕ)
    → r ≡ read.Refused reason number → IsFound file (opened.Here m) → IsStoreRead m.found r
    → IsUnopened file (Refused (answer.Refused reason number))
unopened_read file m r reason number is h k =
    (refused reason number, (here m.found.start m.found.length m.found.store, h.located, (subst (IsStoreRead m.found) is k).store), refl)

-- ---- a file that is opened as a store

-- what was found and read of it is its store
pub opened_from : (file : List ℕ) (m : types.Media) (t : Tree) (b : List ManifestBoxes) (o : OpenedStore)
    → IsFound file (opened.Here m) → IsStoreRead m.found (read.Here t b)
    → o.container.now ≡ m.container → o.range.start ≡ m.found.start → o.range.length ≡ m.found.length
    → AreReadings (manifests_of t) (readings_of o) → IsOpenedFrom file o
opened_from file m t b o h k container start len reads = record {
  container = subst (IsContainerOf file) (sym container) h.container;
  tree = t;
  opened = subst (λ (n : ℕ). IsOpened file (here n o.range.length t)) (sym start)
      (subst (λ (n : ℕ). IsOpened file (here m.found.start n t)) (sym len) (here m.found.start m.found.length m.found.store, h.located, k.store));
  reads = reads;
}

-- a rule fails: it isn't accepted
pub unaccepted_failing : (hash : Alg → List ℕ → List ℕ) (said : Question → Verdict) (file : List ℕ) (failing : Failing)
    → IsAnswered hash said file (answer.Failing failing)
    → IsUnaccepted hash said file (Refused (answer.Failing failing))
unaccepted_failing hash said file failing h = record { is_answer = h.is; invalid = refl }

-- all rules hold: it can be compared
pub side_of :
    (hash : Alg → List ℕ → List ℕ) (said : Question → Verdict) (file : List ℕ) (o : OpenedStore) (summary : Summary)
    (text : BoundText)
    → IsOpenedFrom file o
    → IsAnswered hash said file (answer.Valid summary) → IsCheckedOver hash said o file (checked.Valid summary text)
    → IsCompareSide hash said file (readings_of o) text summary
side_of hash said file o summary text from answered over =
    let v = accepted_is_valid_valid hash said file summary answered.is in
    let s : StoreReading = v.0 in
    let p = v.1.opened in
    let there : here p.start p.len p.tree ≡ here o.range.start o.range.length from.tree =
    one_opening_file file (here p.start p.len p.tree) (here o.range.start o.range.length from.tree) p.is_opened
    from.opened in
    let tree : p.tree ≡ from.tree = cc (there) in
    let r : IsFileReading file from.tree s = subst (λ (t : Tree). IsFileReading file t s) tree p.reads in
    let same : s.readings ≡ readings_of o =
    one_reading_manifests (manifests_of from.tree) s.readings (readings_of o) r.reads.each from.reads in
    let has : HasBindingOf r.media (active_in (readings_of o)) s.binding =
    subst (λ (x : List Reading). HasBindingOf r.media (active_in x) s.binding) same r.reads.binding in
    let w = (over r.media (one_media_read file o.container.now r.media from.container r.is_media) s.binding has).text in
    record {
      store = s;
      accepted = v.1;
      readings = same;
      is_text =
          w.4.text
          ∙ sym
          (ap (λ (x : Option (Result Binding FieldError)). option_map_or (λ (y : Binding). y.text) (binding_value x) []) w.3);
      is_alg =
          w.4.alg
          ∙ sym
          (ap (λ (x : Option Reading). binding_alg x (binding_value s.binding)) (ap active_in same ∙ w.1) ∙ ap (λ (x : Option (Result Binding FieldError)). binding_alg (Some w.0) (binding_value x)) w.3);
      counted = v.2;
    }

-- ---- one answer

-- a file that is accepted isn't refused
pub not_refused : {P : Type 0}
    → (hash : Alg → List ℕ → List ℕ) (said : Question → Verdict) (file : List ℕ) (s : StoreReading)
    → IsAccepted hash said file s
    → (a : Answer) → IsRefusedFirst hash said file a → P
not_refused hash said file s h a r =
    let same =
    one_check_answer hash said file a (answer.Valid (summary_in file s h.opened)) r.is_answer
    (accepted_is_valid_accepted hash said file s h) in
    let bad = sym (ap is_valid same) ∙ r.invalid in
    absurd (cc (bad))
