-- What a build asks of its judges whose new store collects from two files is one list.
use Rattle.std.specs.Prelude.{◌≡◌, ℕ, ◌<◌, ◌^◌, List, All}
use Rattle.c2_base.specs.declared.values.Question.{Question}
use Rattle.c2_spec.specs.declared.digest.Alg.{Alg}
use Rattle.c2_spec.specs.declared.panel.Verdict.{Verdict}
use Rattle.c2_collect_spec.specs.Outcomes.{CollectAsks, CollectPlanAsks}

-- `plan_collect` asks one list of questions at most over the same inputs
abbrev pub OneCollectPlanAsks : Type 0
OneCollectPlanAsks = (hash : Alg → List ℕ → List ℕ) (said : Question → Verdict) (media definition other : List ℕ) (ps qs : List Question)
    → CollectPlanAsks hash said media definition other ps → CollectPlanAsks hash said media definition other qs → ps ≡ qs

-- `embed_collect` asks one list of questions at most over the same inputs
abbrev pub OneCollectAsks : Type 0
OneCollectAsks = (hash : Alg → List ℕ → List ℕ) (said : Question → Verdict) (media definition message other : List ℕ) (ps qs : List Question)
    → CollectAsks hash said media definition message other ps → CollectAsks hash said media definition message other qs → ps ≡ qs

-- `plan_collect` asks a list of questions over each two files and each definition file
abbrev pub SomeCollectPlanAsks : Type 0
SomeCollectPlanAsks = (hash : Alg → List ℕ → List ℕ) (said : Question → Verdict) (media definition other : List ℕ)
    → All (λ b. b < 2 ^ 8) media → All (λ b. b < 2 ^ 8) other → (qs : List Question) × CollectPlanAsks hash said media definition other qs

-- `embed_collect` asks a list of questions over each two files, each definition file and each message
abbrev pub SomeCollectAsks : Type 0
SomeCollectAsks = (hash : Alg → List ℕ → List ℕ) (said : Question → Verdict) (media definition message other : List ℕ)
    → All (λ b. b < 2 ^ 8) media → All (λ b. b < 2 ^ 8) other → All (λ b. b < 2 ^ 8) message
    → (qs : List Question) × CollectAsks hash said media definition message other qs
