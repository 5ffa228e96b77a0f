-- What the check of a media file answers, and what it asks: where the file is opened as a store, by the check list.
use Rattle.std.specs.Prelude.{◌≡◌, ℕ, List, [], length}
use Rattle.c2_base.specs.declared.values.Question.{Question}
use Rattle.c2_spec.specs.Jumbf.Tree.{Tree}
use Rattle.c2_spec.specs.C2pa.Manifest.{manifests_of}
use Rattle.c2_spec.specs.Located.{Opening, refused, absent, here}
use Rattle.c2_spec.specs.declared.digest.Alg.{Alg}
use Rattle.c2_spec.specs.declared.panel.Verdict.{Verdict}
use Rattle.c2_rules.specs.Binding.{Media, IsMedia}
use Rattle.c2_rules.specs.CheckList.{StoreReading, IsStoreReading, store_answer, check_asks, questions}
use Rattle.c2_rules.specs.Readings.{Reading, AreReadings}
use Rattle.c2_rules.specs.Opened.{IsOpened}
use Rattle.c2_rules.specs.declared.answer.Answer.{Answer}
use Rattle.c2_rules.specs.declared.answer.Answer.TheVariants as answer

-- the box tree of a file's store is read so
pub record IsFileReading (file : List ℕ) (t : Tree) (s : StoreReading) : Type 0 where
  pub media : Media
  pub is_media : IsMedia file media
  pub reads : IsStoreReading media (manifests_of t) s

-- what is answered over the box tree of a store
abbrev pub IsTreeAnswer : (Alg → List ℕ → List ℕ) → (Question → Verdict) → List ℕ → ℕ → ℕ → Tree
    → Answer → Type 0
IsTreeAnswer hash said file start len t expected =
    (s : StoreReading) × IsFileReading file t s
    × (expected ≡ store_answer hash said (length file) start len s)

-- over what a file is opened as
abbrev pub IsOpenedAnswer : (Alg → List ℕ → List ℕ) → (Question → Verdict) → List ℕ → Opening Tree → Answer
    → Type 0
IsOpenedAnswer hash said file (refused reason number) expected =
    expected ≡ answer.Refused reason number
IsOpenedAnswer hash said file absent expected = expected ≡ answer.NoStore
IsOpenedAnswer hash said file (here start len t) expected =
    IsTreeAnswer hash said file start len t expected

-- over a file
abbrev pub IsAnswer : (Alg → List ℕ → List ℕ) → (Question → Verdict) → List ℕ → Answer → Type 0
IsAnswer hash said file expected =
    (what : Opening Tree) × IsOpened file what × IsOpenedAnswer hash said file what expected

-- what is asked over what a file is opened as, where `asks` says what is asked over the manifests that were read
abbrev pub OpenedAsks : (List Reading → List Question) → Opening Tree → List Question → Type 0
OpenedAsks asks (refused reason number) qs = qs ≡ []
OpenedAsks asks absent qs = qs ≡ []
OpenedAsks asks (here start len t) qs =
    (rs : List Reading) × AreReadings (manifests_of t) rs × (qs ≡ asks rs)

-- what is asked over a file
abbrev pub MediaAsks : (List Reading → List Question) → List ℕ → List Question → Type 0
MediaAsks asks file qs = (what : Opening Tree) × IsOpened file what × OpenedAsks asks what qs

-- the check of a file asks these questions, in this order
abbrev pub CheckAsks : (Alg → List ℕ → List ℕ) → (Question → Verdict) → List ℕ → List Question
    → Type 0
CheckAsks hash said file qs = MediaAsks (check_asks hash said) file qs

-- the questions of a file: of each reached manifest that has one, the last first
abbrev pub AreQuestions : List ℕ → List Question → Type 0
AreQuestions file qs = MediaAsks questions file qs
