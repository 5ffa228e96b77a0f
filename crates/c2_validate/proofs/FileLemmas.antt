-- The answer of a file, by what it is opened as, and by the store that was opened from it.
use Rattle.c2_opening.proofs.TheLaws.{one_media_read, one_opening_file, one_opening_store}
use Rattle.c2_read_manifests.proofs.TheLaws.{one_reading_manifests}
use Rattle.std.proofs.Common.{◌≡◌, ℕ, ◌<◌, ◌^◌, List, [], All, length, Option, Some, Ok, Err, IfOk, refl, sym, ap, ◌∙◌, subst}
use Rattle.c2_base.specs.declared.values.Question.{Question}
use Rattle.c2_spec.specs.C2pa.Manifest.{manifests_of}
use Rattle.c2_spec.specs.Jumbf.Tree.{Tree}
use Rattle.c2_spec.specs.Located.{Located, Opening, absent, here, refused}
use Rattle.c2_spec.specs.declared.digest.Alg.{Alg}
use Rattle.c2_spec.specs.declared.panel.Verdict.{Verdict}
use Rattle.c2_spec.specs.declared.reason.Reason.{Reason}
use Rattle.std.specs.declared.result.Result.{Result}
use Rattle.c2_rules.specs.CheckList.{HasBindingOf, StoreReading, active_in, check_asks, store_answer}
use Rattle.c2_rules.specs.Opened.{IsManifestStore, IsOpened, Opens}
use Rattle.c2_rules.specs.Readings.{AreReadings, Reading}
use Rattle.c2_rules.specs.Validated.{CheckAsks, IsAnswer, IsOpenedAnswer, IsTreeAnswer, OpenedAsks}
use Rattle.c2_rules.specs.declared.answer.Answer.{Answer}
use Rattle.c2_rules.specs.declared.answer.Answer.TheVariants as answer
use Rattle.c2_calls_spec.specs.Asks.{AsksKnown}
use Rattle.c2_container.specs.Contained.{IsContainerOf}
use Rattle.c2_container.specs.declared.types.Container.{Container}
use Rattle.c2_opening.specs.Opened.{IsFound, IsStoreRead, tree_of}
use Rattle.c2_opening.specs.declared.types.Media.{Media as MediaFile}
use Rattle.c2_opening.specs.declared.types.Opened.TheVariants as opened
use Rattle.c2_opening.specs.declared.types.StoreRead.{StoreRead}
use Rattle.c2_opening.specs.declared.types.StoreRead.TheVariants as read
use Rattle.c2_spec.specs.declared.store.ManifestBoxes.{ManifestBoxes}
use Rattle.c2_validate.proofs.EachCheck.{each_answer}
use Rattle.c2_validate.proofs.OneCheck.{one_answer}
use Rattle.c2_validate.specs.Boxes.{AnswersOver, IsMediaAnswer, IsTreeAnswered, MediaAsks}
use Rattle.c2_validate.specs.Checked.{IsCheckedOver, IsOpenedFrom, StoreAsks, answer_as, readings_of}
use Rattle.c2_validate.specs.Validation.{FileAsks, IsAnswered}
use Rattle.c2_validate.specs.declared.checking.Checked.{Checked}
use Rattle.c2_validate.specs.declared.checking.OpenedStore.{OpenedStore}

-- ---- by what the file is opened as

-- the answer over what a file is opened as is that of the file, and nothing else is
pub opened_answer :
    (hash : Alg → List ℕ → List ℕ) (said : Question → Verdict) (file : List ℕ) (what : Opening Tree) (a : Answer)
    → IsOpened file what → IsOpenedAnswer hash said file what a → IsAnswered hash said file a
opened_answer hash said file what a is over =
    record { is = (what, is, over); only = λ expected answers. one_answer hash said file expected a answers (what, is, over) }

-- what is asked of a file is asked over what it is opened as
pub opened_asks :
    (hash : Alg → List ℕ → List ℕ) (said : Question → Verdict) (file : List ℕ) (what : Opening Tree)
    (qs : List Question)
    → IsOpened file what → CheckAsks hash said file qs → OpenedAsks (check_asks hash said) what qs
opened_asks hash said file what qs is asks =
    subst (λ (w : Opening Tree). OpenedAsks (check_asks hash said) w qs) (one_opening_file file asks.0 what asks.1 is)
    asks.2

-- ---- by the store that was opened

-- what is answered over manifests that were read is what is answered over the tree that they were read of
pub tree_answered : (hash : Alg → List ℕ → List ℕ) (said : Question → Verdict)
    (file : List ℕ) (c : Container) (start len : ℕ) (t : Tree) (rs : List Reading) (a expected : Answer)
    → IsContainerOf file c → AreReadings (manifests_of t) rs → AnswersOver hash said file c start len rs a
    → IsTreeAnswer hash said file start len t expected → a ≡ expected
tree_answered hash said file c start len t rs a expected contained reads h k =
    let s : StoreReading = k.0 in
    let same : rs ≡ s.readings = one_reading_manifests (manifests_of t) rs s.readings reads k.1.reads.each in
    let there : HasBindingOf k.1.media (active_in rs) s.binding =
    subst (λ (x : List Reading). HasBindingOf k.1.media (active_in x) s.binding) (sym same) k.1.reads.binding in
    h k.1.media (one_media_read file c k.1.media contained k.1.is_media) s.binding there
    ∙ ap
    (λ (x : List Reading). store_answer hash said (length file) start len (record { readings = x; binding = s.binding }))
    same
    ∙ sym k.2

-- what is asked over a tree is asked over what was read of it
pub tree_asks :
    (hash : Alg → List ℕ → List ℕ) (said : Question → Verdict) (t : Tree) (rs ss : List Reading) (qs : List Question)
    → AreReadings (manifests_of t) rs → AreReadings (manifests_of t) ss → qs ≡ check_asks hash said ss
    → qs ≡ check_asks hash said rs
tree_asks hash said t rs ss qs reads others is =
    is ∙ ap (check_asks hash said) (one_reading_manifests (manifests_of t) ss rs others reads)

-- what is answered over a tree is the answer of the file that is opened as that tree
answer_by :
    (hash : Alg → List ℕ → List ℕ) (said : Question → Verdict) (file : List ℕ) (c : Container) (start len : ℕ)
    (t : Tree) (rs : List Reading) (a b : Answer) → IsAnswer hash said file b → IsContainerOf file c
    → IsOpened file (here start len t)
    → AreReadings (manifests_of t) rs → AnswersOver hash said file c start len rs a → IsAnswered hash said file a
answer_by hash said file c start len t rs a b is contained opened_as reads h =
    let over =
    subst (λ (w : Opening Tree). IsOpenedAnswer hash said file w b)
    (one_opening_file file is.0 (here start len t) is.1 opened_as) is.2 in
    let same : b ≡ a = sym (tree_answered hash said file c start len t rs a b contained reads h over) in
    record
    { is = subst (IsAnswer hash said file) same is; only = λ expected k. one_answer hash said file expected b k is ∙ same }

-- what is answered over the manifests that were read of a box tree is answered over that
pub boxes_answered : {E : Type 0} (hash : Alg → List ℕ → List ℕ) (said : Question → Verdict) (file : List ℕ) (c : Container)
    (start len : ℕ) (t : Tree) (rs : List Reading) (r : Result Answer E) → AreReadings (manifests_of t) rs
    → IfOk r (AnswersOver hash said file c start len rs) → IfOk r (IsTreeAnswered hash said c start len t file)
boxes_answered hash said file c start len t rs (Ok a) reads h = λ contained expected k.
    sym (tree_answered hash said file c start len t rs a expected contained reads h k)
boxes_answered hash said file c start len t rs (Err e) reads h = tt

-- what is answered over the manifests of a file's store is its answer
pub read_answers :
    (hash : Alg → List ℕ → List ℕ) (said : Question → Verdict) (file : List ℕ) (c : Container) (start len : ℕ) (t : Tree) (rs : List Reading) (a : Answer)
    → All (λ b. b < 2 ^ 8) file → IsContainerOf file c
    → IsOpened file (here start len t) → AreReadings (manifests_of t) rs → AnswersOver hash said file c start len rs a
    → IsAnswered hash said file a
read_answers hash said file c start len t rs a bytes contained opened_as reads h =
    let e =
    each_answer hash said file bytes in answer_by hash said file c start len t rs a e.0 e.1 contained opened_as
    reads h

-- what is asked of a file is asked over the manifests of its store
pub read_asks : (hash : Alg → List ℕ → List ℕ) (said : Question → Verdict) (file : List ℕ)
    (start len : ℕ) (t : Tree) (rs : List Reading) (qs : List Question) → IsOpened file (here start len t)
    → AreReadings (manifests_of t) rs → CheckAsks hash said file qs → qs ≡ check_asks hash said rs
read_asks hash said file start len t rs qs opened_as reads asks =
    let over = opened_asks hash said file (here start len t) qs opened_as asks in
    tree_asks hash said t rs over.0 qs reads over.1 over.2

-- what is answered over an opened store is the answer of its file
pub store_answers :
    (hash : Alg → List ℕ → List ℕ) (said : Question → Verdict) (file : List ℕ) (o : OpenedStore) (checked : Checked)
    → All (λ b. b < 2 ^ 8) file → IsOpenedFrom file o → IsCheckedOver hash said o file checked
    → IsAnswered hash said file (answer_as checked)
store_answers hash said file o checked bytes from h =
    read_answers hash said file o.container.now o.range.start o.range.length from.tree (readings_of o)
    (answer_as checked) bytes from.container from.opened from.reads (λ m i b has. (h m i b has).answer)

-- what is asked of a file is asked of its opened store
pub store_asks :
    (hash : Alg → List ℕ → List ℕ) (said : Question → Verdict) (file : List ℕ) (o : OpenedStore) (qs : List Question)
    → IsOpenedFrom file o → CheckAsks hash said file qs → StoreAsks hash o said qs
store_asks hash said file o qs from asks =
    read_asks hash said file o.range.start o.range.length from.tree (readings_of o) qs from.opened from.reads asks

-- ---- what a file is opened as

-- a file whose container is refused
pub opened_refused : (file : List ℕ) (reason : Reason) (number : ℕ) → IsFound file (opened.Refused reason number)
    → IsOpened file (refused reason number)
opened_refused file reason number h = (refused reason number, h.located, refl)

-- a file without a store
pub opened_absent : (file : List ℕ) (c : Container) → IsFound file (opened.NoStore c) → IsOpened file absent
opened_absent file c h = (absent, h.located, refl)

-- a file with a store, by what that was read as
pub opened_read : (file : List ℕ) (m : MediaFile) (r : StoreRead) → IsFound file (opened.Here m) → IsStoreRead m.found r
    → IsOpened file (tree_of m.found r)
opened_read file m r h k = (here m.found.start m.found.length m.found.store, h.located, k.store)

-- what a file with a store is opened as, the store is opened as
found_store : (file : List ℕ) (m : MediaFile) (what : Opening Tree) → IsFound file (opened.Here m) → IsOpened file what
    → IsManifestStore m.found.start m.found.length m.found.store what
found_store file m what h k = subst (λ (l : Located). Opens IsManifestStore l what) (h.only k.0 k.1) k.2

-- ---- what is asked of a file whose bytes may be known

-- nothing, where it has no store
pub known_absent :
    (known : Option (List ℕ)) (hash : Alg → List ℕ → List ℕ) (said : Question → Verdict) (qs : List Question)
    → ((file : List ℕ) → known ≡ Some file → IsOpened file absent) → AsksKnown known (FileAsks hash) said qs → qs ≡ []
known_absent known hash said qs is asks = opened_asks hash said asks.0 absent qs (is asks.0 asks.1) asks.2

-- nothing, where it is refused
pub known_refused : (known : Option (List ℕ)) (hash : Alg → List ℕ → List ℕ) (said : Question → Verdict)
    (reason : Reason) (number : ℕ) (qs : List Question)
    → ((file : List ℕ) → known ≡ Some file → IsOpened file (refused reason number))
    → AsksKnown known (FileAsks hash) said qs → qs ≡ []
known_refused known hash said reason number qs is asks =
    opened_asks hash said asks.0 (refused reason number) qs (is asks.0 asks.1) asks.2

-- what is asked over the store that was found in it
pub known_media :
    (known : Option (List ℕ)) (hash : Alg → List ℕ → List ℕ) (said : Question → Verdict) (m : MediaFile)
    (qs : List Question)
    → ((file : List ℕ) → known ≡ Some file → IsFound file (opened.Here m))
    → AsksKnown known (FileAsks hash) said qs → MediaAsks hash m said qs
known_media known hash said m qs found asks = by (found asks.0 asks.1) asks.2
  where
    by : {file : List ℕ} → IsFound file (opened.Here m) → CheckAsks hash said file qs → MediaAsks hash m said qs
    by {file} h k = (k.0, found_store file m k.0 h k.1, k.2)

-- ---- the store that was found

-- what it is opened as is what was read of it
read_as : (m : MediaFile) (r : StoreRead) (what : Opening Tree) → IsStoreRead m.found r
    → IsManifestStore m.found.start m.found.length m.found.store what → what ≡ tree_of m.found r
read_as m r what h is =
    one_opening_store m.found.start m.found.length m.found.store what (tree_of m.found r) is h.store

-- it is refused
pub media_refused : (hash : Alg → List ℕ → List ℕ) (said : Question → Verdict) (file : List ℕ) (m : MediaFile)
    (reason : Reason) (number : ℕ) → IsStoreRead m.found (read.Refused reason number)
    → IsMediaAnswer hash said m file (answer.Refused reason number)
media_refused hash said file m reason number h contained what is expected over =
    subst (λ (w : Opening Tree). IsOpenedAnswer hash said file w expected)
    (read_as m (read.Refused reason number) what h is) over

-- what is answered over its box tree is answered over it
pub media_boxes : {E : Type 0} (hash : Alg → List ℕ → List ℕ) (said : Question → Verdict) (file : List ℕ) (m : MediaFile)
    (t : Tree) (s : List ManifestBoxes) (r : Result Answer E) → IsStoreRead m.found (read.Here t s)
    → IfOk r (IsTreeAnswered hash said m.container m.found.start m.found.length t file)
    → IfOk r (IsMediaAnswer hash said m file)
media_boxes hash said file m t s (Ok a) h k = λ contained what is expected over.
    k contained expected
    (subst (λ (w : Opening Tree). IsOpenedAnswer hash said file w expected) (read_as m (read.Here t s) what h is) over)
media_boxes hash said file m t s (Err e) h k = tt

-- what is asked over it is asked over what was read of it
pub media_asks : (hash : Alg → List ℕ → List ℕ) (said : Question → Verdict) (m : MediaFile) (r : StoreRead)
    (qs : List Question) → IsStoreRead m.found r → MediaAsks hash m said qs
    → OpenedAsks (check_asks hash said) (tree_of m.found r) qs
media_asks hash said m r qs h k =
    subst (λ (w : Opening Tree). OpenedAsks (check_asks hash said) w qs) (read_as m r k.0 h k.1) k.2

-- what is answered over it is the answer of its file
pub found_answered : {E : Type 0} (hash : Alg → List ℕ → List ℕ) (said : Question → Verdict)
    (file : List ℕ) (m : MediaFile) (r : Result Answer E) → All (λ b. b < 2 ^ 8) file → IsFound file (opened.Here m)
    → IfOk r (IsMediaAnswer hash said m file) → IfOk r (IsAnswered hash said file)
found_answered hash said file m (Ok a) bytes h k =
    let only : (expected : Answer) → IsAnswer hash said file expected → expected ≡ a =
    λ expected is. k h.container is.0 (found_store file m is.0 h is.1) expected is.2 in
    let e = each_answer hash said file bytes in
    record { is = subst (IsAnswer hash said file) (only e.0 e.1) e.1; only = only }
found_answered hash said file m (Err e) bytes h k = tt
