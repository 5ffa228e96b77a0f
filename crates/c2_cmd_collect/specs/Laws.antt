-- That `plan-collect` and `embed-collect` come to one outcome each at most and ask one list of questions, and that each comes to one and asks one
-- where its media files and its message are bytes.
use Rattle.std.specs.Prelude.{◌≡◌, ℕ, ◌<◌, ◌^◌, All, List}
use Rattle.c2_base.specs.declared.values.Question.{Question}
use Rattle.c2_spec.specs.declared.digest.Alg.{Alg}
use Rattle.c2_spec.specs.declared.panel.Verdict.{Verdict}
use Rattle.c2_collect_spec.specs.Outcomes.{CollectAsks, CollectPlanAsks}
use Rattle.c2_cmd_outcome.specs.Outcome.{IsOneOutcome, Outcome}
use Rattle.c2_cmd_collect.specs.Outcomes.{IsEmbedCollectOutcome, IsPlanCollectOutcome}

-- each of both commands comes to one outcome at most for what it is handed
pub record OneCollectOutcome : Type 0 where
  pub plan : (hash : Alg → List ℕ → List ℕ) (said : Question → Verdict) (media definition other : List ℕ) → IsOneOutcome (IsPlanCollectOutcome hash said media definition other)
  pub embed : (hash : Alg → List ℕ → List ℕ) (said : Question → Verdict) (media definition message other : List ℕ) → IsOneOutcome (IsEmbedCollectOutcome hash said media definition message other)

-- each asks one list of questions at most for what it is handed
pub record OneCollectQuestions : Type 0 where
  pub plan : (hash : Alg → List ℕ → List ℕ) (said : Question → Verdict) (media definition other : List ℕ) (ps qs : List Question) → CollectPlanAsks hash said media definition other ps → CollectPlanAsks hash said media definition other qs → ps ≡ qs
  pub embed : (hash : Alg → List ℕ → List ℕ) (said : Question → Verdict) (media definition message other : List ℕ) (ps qs : List Question) → CollectAsks hash said media definition message other ps → CollectAsks hash said media definition message other qs → ps ≡ qs

-- each comes to an outcome where its media files and its message are bytes
pub record EachCollectOutcome : Type 0 where
  pub plan : (hash : Alg → List ℕ → List ℕ) (said : Question → Verdict) (media definition other : List ℕ) → All (λ b. b < 2 ^ 8) media → All (λ b. b < 2 ^ 8) other → (expected : Outcome) × IsPlanCollectOutcome hash said media definition other expected
  pub embed : (hash : Alg → List ℕ → List ℕ) (said : Question → Verdict) (media definition message other : List ℕ) → All (λ b. b < 2 ^ 8) media → All (λ b. b < 2 ^ 8) message → All (λ b. b < 2 ^ 8) other → (expected : Outcome) × IsEmbedCollectOutcome hash said media definition message other expected

-- each asks a list of questions where its media files and its message are bytes
pub record EachCollectQuestions : Type 0 where
  pub plan : (hash : Alg → List ℕ → List ℕ) (said : Question → Verdict) (media definition other : List ℕ) → All (λ b. b < 2 ^ 8) media → All (λ b. b < 2 ^ 8) other → (qs : List Question) × CollectPlanAsks hash said media definition other qs
  pub embed : (hash : Alg → List ℕ → List ℕ) (said : Question → Verdict) (media definition message other : List ℕ) → All (λ b. b < 2 ^ 8) media → All (λ b. b < 2 ^ 8) message → All (λ b. b < 2 ^ 8) other → (qs : List Question) × CollectAsks hash said media definition message other qs
