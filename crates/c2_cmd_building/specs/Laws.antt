-- That a command that builds comes to one outcome at most and asks one list of questions, and that each comes to one and asks one where its
-- files are bytes.
use Rattle.std.specs.Prelude.{ℕ, ◌<◌, ◌^◌, All, List}
use Rattle.c2_base.specs.declared.values.Question.{Question}
use Rattle.c2_spec.specs.declared.digest.Alg.{Alg}
use Rattle.c2_spec.specs.declared.panel.Verdict.{Verdict}
use Rattle.c2_build_plain.specs.Asked.{OneEmbedAsks, OnePlanAsks, SomeEmbedAsks, SomePlanAsks}
use Rattle.c2_new_file_spec.specs.Fresh.{GivesDigests}
use Rattle.c2_cmd_outcome.specs.Outcome.{IsOneOutcome, Outcome}
use Rattle.c2_sample.specs.Sample.{EachSampleAsks, OneSampleAsks}
use Rattle.c2_cmd_building.specs.Outcomes.{IsEmbedOutcome, IsPlanOutcome, IsSampleOutcome}

-- each command that builds comes to one outcome at most for what it is handed
pub record OneBuildingOutcome : Type 0 where
  pub plan : (hash : Alg → List ℕ → List ℕ) (said : Question → Verdict) (media definition : List ℕ) → IsOneOutcome (IsPlanOutcome hash said media definition)
  pub embed : (hash : Alg → List ℕ → List ℕ) (said : Question → Verdict) (media definition message : List ℕ) → IsOneOutcome (IsEmbedOutcome hash said media definition message)
  pub sample : (hash : Alg → List ℕ → List ℕ) (said : Question → Verdict) (n : ℕ) → IsOneOutcome (IsSampleOutcome hash said n)

-- each command that builds asks one list of questions at most for what it is handed
pub record OneBuildingQuestions : Type 0 where
  pub plan : OnePlanAsks
  pub embed : OneEmbedAsks
  pub sample : OneSampleAsks

-- each command that builds comes to an outcome where its files are bytes, and `sample` where the hash gives digests
pub record EachBuildingOutcome : Type 0 where
  pub plan : (hash : Alg → List ℕ → List ℕ) (said : Question → Verdict) (media definition : List ℕ) → All (λ b. b < 2 ^ 8) media → (expected : Outcome) × IsPlanOutcome hash said media definition expected
  pub embed : (hash : Alg → List ℕ → List ℕ) (said : Question → Verdict) (media definition message : List ℕ) → All (λ b. b < 2 ^ 8) media → All (λ b. b < 2 ^ 8) message → (expected : Outcome) × IsEmbedOutcome hash said media definition message expected
  pub sample : (hash : Alg → List ℕ → List ℕ) (said : Question → Verdict) (n : ℕ) → GivesDigests hash → (expected : Outcome) × IsSampleOutcome hash said n expected

-- each command that builds asks a list of questions where its files are bytes, and `sample` where the hash gives digests
pub record EachBuildingQuestions : Type 0 where
  pub plan : SomePlanAsks
  pub embed : SomeEmbedAsks
  pub sample : EachSampleAsks
