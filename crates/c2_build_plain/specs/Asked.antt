-- What a build asks of its judges is one list.
use Rattle.std.specs.Prelude.{◌≡◌, ℕ, ◌<◌, ◌^◌, List, All}
use Rattle.c2_base.specs.declared.values.Question.{Question}
use Rattle.c2_spec.specs.declared.digest.Alg.{Alg}
use Rattle.c2_spec.specs.declared.panel.Verdict.{Verdict}
use Rattle.c2_build_plain.specs.Building.{EmbedAsks, PlanAsks}

-- `plan` asks one list of questions at most over the same inputs
abbrev pub OnePlanAsks : Type 0
OnePlanAsks = (hash : Alg → List ℕ → List ℕ) (said : Question → Verdict) (media definition : List ℕ) (ps qs : List Question)
    → PlanAsks hash said media definition ps → PlanAsks hash said media definition qs → ps ≡ qs

-- `embed` asks one list of questions over the same inputs
abbrev pub OneEmbedAsks : Type 0
OneEmbedAsks = (hash : Alg → List ℕ → List ℕ) (said : Question → Verdict) (media definition message : List ℕ) (ps qs : List Question)
    → EmbedAsks hash said media definition message ps → EmbedAsks hash said media definition message qs → ps ≡ qs

-- `plan` asks a list of questions over each media file and each definition file
abbrev pub SomePlanAsks : Type 0
SomePlanAsks = (hash : Alg → List ℕ → List ℕ) (said : Question → Verdict) (media definition : List ℕ) → All (λ b. b < 2 ^ 8) media
    → (qs : List Question) × PlanAsks hash said media definition qs

-- `embed` asks some list of questions over each media file, each definition file and each message
abbrev pub SomeEmbedAsks : Type 0
SomeEmbedAsks = (hash : Alg → List ℕ → List ℕ) (said : Question → Verdict) (media definition message : List ℕ) → All (λ b. b < 2 ^ 8) media
    → All (λ b. b < 2 ^ 8) message → (qs : List Question) × EmbedAsks hash said media definition message qs
