-- What a build whose new store collects from two files asks of its judges is one list.
use Rattle.std.specs.Prelude.{◌≡◌, ℕ, ◌<◌, ◌^◌, List, All}
use Rattle.c2_base.specs.declared.values.Question.{Question}
use Rattle.c2_spec.specs.declared.digest.Alg.{Alg}
use Rattle.c2_spec.specs.declared.panel.Verdict.{Verdict}
use Rattle.c2_collect_spec.specs.Outcomes.{CollectAsks, CollectPlanAsks, HasCheck, IsOpenedOnce}

-- A plan over two files that are opened as one thing each asks one list of questions at most.
abbrev pub OneCollectPlanAsks : Type 0
OneCollectPlanAsks = (hash : Alg → List ℕ → List ℕ) (said : Question → Verdict) (media definition other : List ℕ) (ps qs : List Question)
    → IsOpenedOnce media → IsOpenedOnce other → CollectPlanAsks hash said media definition other ps → CollectPlanAsks hash said media definition other qs
    → ps ≡ qs

-- A build over two files that are opened as one thing each asks one list of questions at most.
abbrev pub OneCollectAsks : Type 0
OneCollectAsks = (hash : Alg → List ℕ → List ℕ) (said : Question → Verdict) (media definition message other : List ℕ) (ps qs : List Question)
    → IsOpenedOnce media → IsOpenedOnce other → CollectAsks hash said media definition message other ps → CollectAsks hash said media definition message other qs
    → ps ≡ qs

-- A plan asks a list of questions over each two files whose checks answer something, and each definition file.
abbrev pub SomeCollectPlanAsks : Type 0
SomeCollectPlanAsks = (hash : Alg → List ℕ → List ℕ) (said : Question → Verdict) (media definition other : List ℕ)
    → HasCheck hash said media → HasCheck hash said other
    → (qs : List Question) × CollectPlanAsks hash said media definition other qs

-- A build asks a list of questions over each two files whose checks answer something, each definition file and each message.
abbrev pub SomeCollectAsks : Type 0
SomeCollectAsks = (hash : Alg → List ℕ → List ℕ) (said : Question → Verdict) (media definition message other : List ℕ)
    → HasCheck hash said media → HasCheck hash said other → All (λ b. b < 2 ^ 8) message
    → (qs : List Question) × CollectAsks hash said media definition message other qs
