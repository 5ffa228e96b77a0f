-- For private clauses: what is answered, and asked, over the manifests, the boxes and the store that were found of a media file.
use Rattle.std.specs.Prelude.{◌≡◌, ℕ, List, length}
use Rattle.std.specs.declared.option.Option.{Option}
use Rattle.std.specs.declared.result.Result.{Result}
use Rattle.c2_base.specs.declared.values.Question.{Question}
use Rattle.c2_spec.specs.Jumbf.Tree.{Tree}
use Rattle.c2_spec.specs.Located.{Opening, here}
use Rattle.c2_spec.specs.declared.assertion.FieldError.{FieldError}
use Rattle.c2_spec.specs.declared.digest.Alg.{Alg}
use Rattle.c2_spec.specs.declared.panel.Verdict.{Verdict}
use Rattle.c2_rules.specs.Binding.{Binding, Media}
use Rattle.c2_rules.specs.CheckList.{HasBindingOf, active_in, check_asks, store_answer}
use Rattle.c2_rules.specs.Opened.{IsManifestStore}
use Rattle.c2_rules.specs.Readings.{Reading}
use Rattle.c2_rules.specs.Validated.{IsOpenedAnswer, IsTreeAnswer, OpenedAsks}
use Rattle.c2_rules.specs.declared.answer.Answer.{Answer}
use Rattle.c2_container.specs.Contained.{IsContainerOf}
use Rattle.c2_container.specs.declared.types.Container.{Container}
use Rattle.c2_opening.specs.Media.{IsMediaOf}
use Rattle.c2_opening.specs.declared.types.Media.{Media as MediaFile}
use Rattle.c2_validate.specs.Checked.{readings_of}
use Rattle.c2_validate.specs.External.{IsStoreAnswer}
use Rattle.c2_validate.specs.declared.checking.OpenedStore.{OpenedStore}
use Rattle.c2_validate.specs.declared.checking.StoreBoxes.{StoreBoxes}
use Rattle.c2_validate.specs.declared.external.External.{External}

-- ---- manifests that were read

-- what is answered over manifests that were read, in a file of this container and this embedded range
abbrev pub AnswersOver : (Alg → List ℕ → List ℕ) → (Question → Verdict) → List ℕ → Container → ℕ → ℕ → List Reading
    → Answer → Type 0
AnswersOver hash said file c start len rs a =
    (m : Media) → IsMediaOf file c m → (b : Option (Result Binding FieldError)) → HasBindingOf m (active_in rs) b → a
    ≡ store_answer hash said (length file) start len (record { readings = rs; binding = b })

-- what is answered over an opened store
abbrev pub IsAnsweredOver : (Alg → List ℕ → List ℕ) → (Question → Verdict) → OpenedStore → List ℕ → Answer → Type 0
IsAnsweredOver hash said o file a =
    AnswersOver hash said file o.container.now o.range.start o.range.length (readings_of o) a

-- ---- boxes

-- nothing else than this is answered over a box tree in this range, in a file with these bytes that has this container
abbrev pub IsTreeAnswered : (Alg → List ℕ → List ℕ) → (Question → Verdict) → Container → ℕ → ℕ → Tree → List ℕ → Answer
    → Type 0
IsTreeAnswered hash said c start len t file a =
    IsContainerOf file c → (expected : Answer) → IsTreeAnswer hash said file start len t expected → expected ≡ a

-- nor over that of an external store
abbrev pub IsStoreAnswered : (Alg → List ℕ → List ℕ) → (Question → Verdict) → Container → ℕ → ℕ → Tree → List ℕ
    → External → Type 0
IsStoreAnswered hash said c start len t file e =
    IsContainerOf file c → (expected : External) → IsStoreAnswer hash said file (here start len t) expected → expected ≡ e

-- this is what is answered over the boxes of a store
abbrev pub IsBoxesAnswer : (Alg → List ℕ → List ℕ) → (Question → Verdict) → StoreBoxes → List ℕ → Answer → Type 0
IsBoxesAnswer hash said b file a =
    IsTreeAnswered hash said b.container.now b.range.start b.range.length b.tree.now file a

-- this is what is answered over those of an external store
abbrev pub IsStoreOfAnswer : (Alg → List ℕ → List ℕ) → (Question → Verdict) → StoreBoxes → List ℕ → External → Type 0
IsStoreOfAnswer hash said b file e =
    IsStoreAnswered hash said b.container.now b.range.start b.range.length b.tree.now file e

-- what is asked over the boxes of a store
abbrev pub BoxesAsk : (Alg → List ℕ → List ℕ) → StoreBoxes → (Question → Verdict) → List Question → Type 0
BoxesAsk hash b said qs = OpenedAsks (check_asks hash said) (here b.range.start b.range.length b.tree.now) qs

-- ---- a store that was found

-- nothing else than this is answered over the store that was found, whatever that is opened as, in a file with these bytes
abbrev pub IsMediaAnswer : (Alg → List ℕ → List ℕ) → (Question → Verdict) → MediaFile → List ℕ → Answer → Type 0
IsMediaAnswer hash said m file a =
    IsContainerOf file m.container → (what : Opening Tree)
    → IsManifestStore m.found.start m.found.length m.found.store what
    → (expected : Answer) → IsOpenedAnswer hash said file what expected → expected ≡ a

-- what is asked over the store that was found
abbrev pub MediaAsks : (Alg → List ℕ → List ℕ) → MediaFile → (Question → Verdict) → List Question → Type 0
MediaAsks hash m said qs =
    (what : Opening Tree) × IsManifestStore m.found.start m.found.length m.found.store what
    × OpenedAsks (check_asks hash said) what qs
