-- What both files come to, one stage after the other; what is asked of them; and the causes of errors.
use Rattle.c2_read_manifests.proofs.TheLaws.{one_reading_manifests}
use Rattle.std.proofs.Common.{◌≡◌, inl, inr, ℕ, List, [], ◌++◌, Option, None, Some, refl, sym, ap, ◌∙◌, subst}
use Rattle.std.specs.Prelude.{Err, IfErr, Ok, Result}
use Rattle.c2_lemmas.specs.Stages.{AskedBehind, AsksThen, Then}
use Rattle.c2_lemmas.proofs.Stages.{then_next}
use Rattle.c2_base.specs.declared.values.Question.{Question}
use Rattle.c2_base.specs.declared.values.Range.{Range}
use Rattle.c2_spec.specs.C2pa.Manifest.{manifests_of}
use Rattle.c2_spec.specs.Jumbf.Tree.{Tree}
use Rattle.c2_spec.specs.Located.{Opening, absent, here}
use Rattle.c2_spec.specs.declared.digest.Alg.{Alg}
use Rattle.c2_spec.specs.declared.panel.Verdict.{Verdict}
use Rattle.c2_rules.specs.CheckList.{check_asks}
use Rattle.c2_rules.specs.Claims.{Chained}
use Rattle.c2_rules.specs.Opened.{IsOpened}
use Rattle.c2_rules.specs.Readings.{AreReadings}
use Rattle.c2_rules.specs.Validated.{CheckAsks, OpenedAsks}
use Rattle.c2_calls_spec.specs.Asks.{AsksKnown}
use Rattle.c2_container.specs.Contained.{IsContainerOf}
use Rattle.c2_definition.specs.declared.types.Definition.{Definition}
use Rattle.c2_container.specs.declared.types.Container.{Container}
use Rattle.c2_without_store.specs.Clears.{cleared}
use Rattle.c2_new_file_spec.specs.Bases.{IsLeft}
use Rattle.c2_collect_spec.specs.Order.{CollectRefusal, FilePair, MediaFile}
use Rattle.c2_collect_spec.specs.Outcomes.{IsParentStage}
use Rattle.c2_build_refusals.specs.Kinds.{ErrorKind, IsAskCause, IsReadKind, IsSourceCause, WithoutFault, front_refusal, judge_effects, judge_fault, kind_of, message_refusal, no_memory, older_refusal, other_refusal, read_fault, refusal, write_fault}
use Rattle.c2_build_refusals.specs.Stages.{MediaKind}
use Rattle.c2_build_refusals.specs.declared.error.BuildError.{BuildError}
use Rattle.c2_build_refusals.specs.declared.types.BuildBase.{BuildBase}
use Rattle.c2_build_refusals.proofs.Outside.{outside_map, said_each}
use Rattle.c2_build_refusals.proofs.Judged.{IsUnheard, IsUnjudged}
use Rattle.c2_build_base.specs.Grounds.{IsClearedTo, IsKind}
use Rattle.c2_build_base.specs.declared.media.MediaRead.{MediaRead}
use Rattle.c2_build_base.specs.declared.media.OlderStore.{OlderStore}
use Rattle.c2_build_base.proofs.Opened.{fresh_kind, stored_kind}
use Rattle.c2_validate.specs.Checked.{IsOpenedFrom, StoreAsks, readings_of}
use Rattle.c2_validate.specs.Validation.{FileAsks}
use Rattle.c2_validate.specs.declared.checking.OpenedStore.{OpenedStore}
use Rattle.c2_build_collect_base.specs.Errors.{IsRefusedWith}
use Rattle.c2_build_collect_base.specs.Grounds.{IsGroundOf, IsOtherTold, IsParentRefused, PairHears, ground_effects, opening_of}
use Rattle.c2_build_collect_base.specs.Steps.{IsInner, IsInnerKind, IsOpeningError, IsOtherCause, IsReadThere, other_effects}
use Rattle.c2_build_collect_base.proofs.Files.{unopened_asks}
use Rattle.c2_build_collect_base.proofs.Heard.{AreBoth, BeginsWith, IsUnwritten}

-- ---- stages

-- what the first stage refuses, both do
pub ground_first :
    {A : Type 0} (of : List ℕ → List ℕ) (file : List ℕ) (d : Definition) (First : Result A CollectRefusal → Type 0)
    (Next : A → Result FilePair CollectRefusal → Type 0) (e : BuildError)
    → WithoutFault e (IsRefusedWith First e)
    → IsGroundOf of file d (Then First Next) (Err e)
ground_first of file d First Next e h =
    outside_map e (λ (r : IsRefusedWith First e). (r.0, record { first = Err r.0; is_first = r.1; next = refl }, r.2)) h

-- what the second comes to behind it, both do
pub ground_next : {A : Type 0} (of : List ℕ → List ℕ) (file : List ℕ) (d : Definition) (First : Result A CollectRefusal → Type 0) (Next : A → Result FilePair CollectRefusal → Type 0) (a : A) (r : Result BuildBase BuildError)
    → First (Ok a) → IsGroundOf of file d (Next a) r → IsGroundOf of file d (Then First Next) r
ground_next of file d First Next a (Ok k) h n = (n.0, then_next First Next a (Ok n.0) h n.1, n.2)
ground_next of file d First Next a (Err e) h n =
    outside_map e (λ (x : IsRefusedWith (Next a) e). (x.0, then_next First Next a (Err x.0) h x.1, x.2)) n

-- the other file is due where the media isn't refused
pub told_others :
    (hash : Alg → List ℕ → List ℕ) (said : Question → Verdict) (media : List ℕ) (what : Opening Tree)
    (known : Option (List ℕ)) (others : List ℕ)
    → (IsParentRefused hash said media what → ⊥) → IsOtherTold hash said media what known others → known ≡ Some others
told_others hash said media what known others not (inl told) = told
told_others hash said media what known others not (inr refused) = absurd (not refused)

-- a store of another file, as it is checked against the file
pub read_from : (file : List ℕ) (c : Container) (o : OlderStore) (s : OpenedStore) (chain : Chained)
    → IsReadThere file c o → s.container.now ≡ c → s.range ≡ o.range → s.chain.now ≡ chain
    → AreReadings (manifests_of o.tree) chain.readings
    → IsOpenedFrom file s
read_from file c o s chain there container range is reads = record {
  container = subst (IsContainerOf file) (sym container) there.container;
  tree = o.tree;
  opened = subst (λ (r : Range). IsOpened file (here r.start r.length o.tree)) (sym range) there.opened;
  reads = subst (λ (x : Chained). AreReadings (manifests_of o.tree) x.readings) (sym is) reads;
}

-- ---- the media file

-- one without a store is opened as none
pub fresh_opening : (file : List ℕ) (m : MediaRead) (kind : MediaKind) → m.older ≡ None → IsKind file m kind
    → opening_of kind ≡ absent
fresh_opening file m kind is h = ap opening_of (fresh_kind file m kind is h)

-- nothing is cleared away of a media file without a store
pub fresh_clear : (file : List ℕ) (m : MediaRead) (kind : MediaKind) → m.older ≡ None → IsKind file m kind
    → cleared m.clearing file ≡ file
fresh_clear file m kind is h =
    subst (λ (k : MediaKind). IsClearedTo file k m.clearing) (fresh_kind file m kind is h) h.clears

-- one with a store is opened as that
pub stored_opening : (file : List ℕ) (m : MediaRead) (o : OlderStore) (kind : MediaKind) → m.older ≡ Some o
    → IsKind file m kind → opening_of kind ≡ here o.range.start o.range.length o.tree
stored_opening file m o kind is h = ap opening_of (stored_kind file m o kind is h)

-- which is cleared away
pub stored_left : (file : List ℕ) (m : MediaRead) (o : OlderStore) (kind : MediaKind) → m.older ≡ Some o
    → IsKind file m kind → IsLeft file o.range.start o.range.length (cleared m.clearing file)
stored_left file m o kind is h =
    subst (λ (k : MediaKind). IsClearedTo file k m.clearing) (stored_kind file m o kind is h) h.clears

-- ---- questions

-- where the media isn't refused, the other file is asked about
asked_other :
    (hash : Alg → List ℕ → List ℕ) (said : Question → Verdict) (media others : List ℕ) (what : Opening Tree)
    (qs : List Question)
    → (IsParentRefused hash said media what → ⊥)
    → AsksThen (IsParentStage hash said media what) (λ m. CheckAsks hash said others) qs → CheckAsks hash said others qs
asked_other hash said media others what qs not h = by h.first h.is_first h.asks
  where
    by : (r : Result MediaFile CollectRefusal) → IsParentStage hash said media what r
        → AskedBehind r (λ m. CheckAsks hash said others) qs → CheckAsks hash said others qs
    by (Ok m) stage asks = asks
    by (Err r) stage asks = absurd (not (r, stage))

-- where the media is refused, nothing is asked about the other file
asked_none :
    (hash : Alg → List ℕ → List ℕ) (said : Question → Verdict) (media others : List ℕ) (what : Opening Tree)
    (qs : List Question)
    → ((m : MediaFile) → IsParentStage hash said media what (Ok m) → ⊥)
    → AsksThen (IsParentStage hash said media what) (λ m. CheckAsks hash said others) qs → qs ≡ []
asked_none hash said media others what qs not h = by h.first h.is_first h.asks
  where
    by : (r : Result MediaFile CollectRefusal) → IsParentStage hash said media what r
        → AskedBehind r (λ m. CheckAsks hash said others) qs → qs ≡ []
    by (Ok m) stage asks = absurd (not m stage)
    by (Err r) stage asks = asks

-- what is asked of a store is what the check of it asks
asked_store :
    (hash : Alg → List ℕ → List ℕ) (said : Question → Verdict) (what : Opening Tree) (start len : ℕ) (t : Tree)
    (o : OpenedStore) (qs : List Question)
    → what ≡ here start len t → AreReadings (manifests_of t) (readings_of o)
    → OpenedAsks (check_asks hash said) what qs → StoreAsks hash o said qs
asked_store hash said what start len t o qs is reads h =
    let asks : OpenedAsks (check_asks hash said) (here start len t) qs =
    subst (λ (w : Opening Tree). OpenedAsks (check_asks hash said) w qs) is h in
    asks.2 ∙ ap (check_asks hash said) (one_reading_manifests (manifests_of t) asks.0 (readings_of o) asks.1 reads)

-- over a media file without a store the other file's questions are asked alone
pub fresh_asked :
    (hash : Alg → List ℕ → List ℕ) (said : Question → Verdict) (media other : Option (List ℕ)) (m : MediaRead)
    → m.older ≡ None
    → ((bytes : List ℕ) (kind : MediaKind) → IsKind bytes m kind → IsParentRefused hash said bytes (opening_of kind) → ⊥)
    → (qs : List Question) → PairHears hash media other m said qs → AsksKnown other (FileAsks hash) said qs
fresh_asked hash said media other m none not qs k =
    let what : Opening Tree = opening_of k.kind in
    let refused = not k.bytes k.kind k.is in
    let first : k.asks.of_media ≡ [] =
    subst (λ (w : Opening Tree). OpenedAsks (check_asks hash said) w k.asks.of_media)
    (fresh_opening k.bytes m k.kind none k.is) k.asks.media_asks in
    let same : qs ≡ k.asks.of_other = k.asks.are ∙ ap (λ (xs : List Question). xs ++ k.asks.of_other) first in (
      k.others,
      told_others hash said k.bytes what other k.others refused k.is_told,
      subst (λ (xs : List Question). CheckAsks hash said k.others xs) (sym same) (asked_other hash said k.bytes k.others what k.asks.of_other refused k.asks.other_asks),
    )

-- over one with a store, of which no rule fails, both files' questions are
pub stored_asked :
    (hash : Alg → List ℕ → List ℕ) (said : Question → Verdict) (media other : Option (List ℕ)) (m : MediaRead)
    (o : OlderStore) (s : OpenedStore)
    → m.older ≡ Some o → AreReadings (manifests_of o.tree) (readings_of s)
    → ((bytes : List ℕ) (kind : MediaKind) → media ≡ Some bytes → IsKind bytes m kind → IsParentRefused hash said bytes (opening_of kind) → ⊥)
    → (qs : List Question) → PairHears hash media other m said qs
    → AreBoth (StoreAsks hash s) (AsksKnown other (FileAsks hash)) said qs
stored_asked hash said media other m o s is reads not qs k =
    let what : Opening Tree = opening_of k.kind in
    let refused = not k.bytes k.kind k.is_known k.is in
    record {
      first = k.asks.of_media;
      second = k.asks.of_other;
      split = k.asks.are;
      is_first =
          asked_store hash said what o.range.start o.range.length o.tree s k.asks.of_media
          (stored_opening k.bytes m o k.kind is k.is) reads k.asks.media_asks;
      is_second = (
        k.others,
        told_others hash said k.bytes what other k.others refused k.is_told,
        asked_other hash said k.bytes k.others what k.asks.of_other refused k.asks.other_asks,
      );
    }

-- where a rule fails, the media's are asked alone
pub stored_begins :
    (hash : Alg → List ℕ → List ℕ) (said : Question → Verdict) (media other : Option (List ℕ)) (m : MediaRead)
    (o : OlderStore) (s : OpenedStore) (e : BuildError)
    → m.older ≡ Some o
    → AreReadings (manifests_of o.tree) (readings_of s)
    → ((bytes : List ℕ) (kind : MediaKind) → media ≡ Some bytes → IsKind bytes m kind → WithoutFault e ((f : MediaFile) → IsParentStage hash said bytes (opening_of kind) (Ok f) → ⊥))
    → (qs : List Question) → PairHears hash media other m said qs → BeginsWith (StoreAsks hash s) said e qs
stored_begins hash said media other m o s e is reads not qs k =
    let what : Opening Tree = opening_of k.kind in
    record {
      first = k.asks.of_media;
      rest = k.asks.of_other;
      split = k.asks.are;
      below =
          asked_store hash said what o.range.start o.range.length o.tree s k.asks.of_media
          (stored_opening k.bytes m o k.kind is k.is) reads k.asks.media_asks;
      none =
          outside_map e (λ none. asked_none hash said k.bytes k.others what k.asks.of_other none k.asks.other_asks)
          (not k.bytes k.kind k.is_known k.is);
    }

-- ---- causes

-- a step that asks is one that may take another file
pub asks_ground : (Other : Type 0) (m n : ℕ) (e : BuildError) → IsAskCause m n e
    → IsSourceCause ground_effects Other m n (kind_of e)
asks_ground Other m n e h = by (kind_of e) h
  where
    by : (k : ErrorKind) → IsSourceCause judge_effects ⊥ m n k → IsSourceCause ground_effects Other m n k
    by refusal c = c
    by message_refusal c = c
    by front_refusal c = c
    by older_refusal c = c
    by other_refusal c = absurd c
    by read_fault (inl c) = inl c
    by read_fault (inr c) = absurd c
    by judge_fault c = c
    by write_fault c = c
    by no_memory c = c

-- a step that asks writes nothing
pub asks_unwritten : (m n : ℕ) (e : BuildError) → IsAskCause m n e → IsUnwritten (kind_of e)
asks_unwritten m n e h = by (kind_of e) h
  where
    by : (k : ErrorKind) → IsSourceCause judge_effects ⊥ m n k → IsUnwritten k
    by refusal c = tt
    by message_refusal c = tt
    by front_refusal c = tt
    by older_refusal c = tt
    by other_refusal c = tt
    by read_fault c = tt
    by judge_fault c = tt
    by write_fault c = c
    by no_memory c = tt

-- a step that reads the other file is one that may take another file
pub found_ground : (m n : ℕ) (e : BuildError) → IsOtherCause m n e → IsSourceCause ground_effects ⊥ m n (kind_of e)
found_ground m n e h = by (kind_of e) h
  where
    by : (k : ErrorKind) → IsReadKind other_effects m n k → IsSourceCause ground_effects ⊥ m n k
    by refusal c = c
    by message_refusal c = absurd c
    by front_refusal c = absurd c
    by older_refusal c = absurd c
    by other_refusal c = c
    by read_fault c = inl c
    by judge_fault c = absurd c
    by write_fault c = absurd c
    by no_memory c = tt

-- a step that neither reads nor asks is one that may take another file
pub inner_cause : (Other : Type 0) (m n : ℕ) (k : ErrorKind) → n ≡ m → IsInnerKind k
    → IsSourceCause ground_effects Other m n k
inner_cause Other m n refusal same c = same
inner_cause Other m n message_refusal same c = absurd c
inner_cause Other m n front_refusal same c = absurd c
inner_cause Other m n older_refusal same c = same
inner_cause Other m n other_refusal same c = same
inner_cause Other m n read_fault same c = absurd c
inner_cause Other m n judge_fault same c = absurd c
inner_cause Other m n write_fault same c = absurd c
inner_cause Other m n no_memory same c = tt

-- the errors of a step that neither reads nor asks are such as a build over two files may have
pub inner_causes : {T : Type 0} (Other : Type 0) (m n : ℕ) (r : Result T BuildError) → n ≡ m → IfErr r IsInner
    → IfErr r (λ e. IsSourceCause ground_effects Other m n (kind_of e))
inner_causes Other m n (Ok x) same h = tt
inner_causes Other m n (Err e) same h = inner_cause Other m n (kind_of e) same h

-- no judge fails in it, and nothing is written
pub inner_unheard : (k : ErrorKind) → IsInnerKind k → IsUnheard k
inner_unheard refusal c = tt
inner_unheard message_refusal c = tt
inner_unheard front_refusal c = tt
inner_unheard older_refusal c = tt
inner_unheard other_refusal c = tt
inner_unheard read_fault c = tt
inner_unheard judge_fault c = c
inner_unheard write_fault c = c
inner_unheard no_memory c = tt

-- no judge fails by the result of a step that neither reads nor asks
pub inner_result : {T : Type 0} (r : Result T BuildError) → IfErr r IsInner → IfErr r (λ e. IsUnjudged (kind_of e))
inner_result (Ok x) h = tt
inner_result (Err e) h = by (kind_of e) h
  where
    by : (k : ErrorKind) → IsInnerKind k → IsUnjudged k
    by refusal c = tt
    by message_refusal c = absurd c
    by front_refusal c = absurd c
    by older_refusal c = tt
    by other_refusal c = tt
    by read_fault c = absurd c
    by judge_fault c = absurd c
    by write_fault c = absurd c
    by no_memory c = tt

-- nothing is asked of another file that is refused as it is opened
pub opening_asks : (hash : Alg → List ℕ → List ℕ) (said : Question → Verdict) (known : Option (List ℕ)) (e : BuildError)
    → ((file : List ℕ) → known ≡ Some file → WithoutFault e (IsOpeningError file e))
    → WithoutFault e ((qs : List Question) → AsksKnown known (FileAsks hash) said qs → qs ≡ [])
opening_asks hash said known e refused =
    said_each e (λ (qs : List Question). AsksKnown known (FileAsks hash) said qs → qs ≡ [])
    (λ qs. said_each e (λ (k : AsksKnown known (FileAsks hash) said qs). qs ≡ []) (λ k. outside_map e (λ h. unopened_asks hash said k.0 e qs h k.2) (refused k.0 k.1)))
