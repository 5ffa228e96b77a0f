-- Which commands write no file.
use Rattle.std.proofs.Common.{◌≡◌, refl, ◌∙◌, ap, ℕ, List, None}
use Rattle.std.specs.declared.result.Result.{Result}
use Rattle.std.specs.declared.result.Result.TheVariants.{Ok, Err}
use Rattle.c2_base.specs.declared.values.Question.{Question}
use Rattle.c2_compare_spec.specs.declared.compared.Compared.{Compared}
use Rattle.c2_compare_spec.specs.declared.compared.Compared.TheVariants as compared
use Rattle.c2_collect_spec.specs.Order.{CollectRefusal}
use Rattle.c2_cmd_collect.specs.Outcomes.{IsPlanCollectOutcome, plan_outcome as plan_collect_outcome}
use Rattle.c2_build_refusals.specs.declared.error.BuildError.{BuildError}
use Rattle.c2_cmd_front.specs.Outcomes.{IsPlanFrontOutcome, plan_outcome as plan_front_outcome}
use Rattle.c2_new_front_spec.specs.Order.{FrontRefusal}
use Rattle.c2_rules.specs.declared.answer.Answer.{Answer as Checked}
use Rattle.c2_rules.specs.declared.answer.Answer.TheVariants as checked
use Rattle.c2_spec.specs.Located.{Opening, refused, absent, here}
use Rattle.c2_spec.specs.declared.digest.Alg.{Alg}
use Rattle.c2_spec.specs.declared.panel.Verdict.{Verdict}
use Rattle.c2_cmd_building.proofs.TheLaws.{a_sample_writes_no_file}
use Rattle.c2_validate.specs.declared.external.External.{External}
use Rattle.c2_validate.specs.declared.external.External.TheVariants.{Of, StoreRefused}
use Rattle.c2_cmd_outcome.specs.Outcome.{Outcome, Reports, answered}
use Rattle.c2_cmd_building.specs.Outcomes.{IsPlanOutcome, IsSampleOutcome, plan_outcome}
use Rattle.c2_cmd_reading.specs.Outcomes.{IsCompareOutcome, IsDigestOutcome, IsExternalOutcome, IsListOutcome, IsMediaOutcome, IsQuestioned, IsShown, IsValidated, compare_outcome, external_outcome}

-- what is reported of what was opened has no file, if none has over a store
unfiled_report : {A : Type 0} (Is : ℕ → ℕ → A → Outcome → Type 0)
    → ((start len : ℕ) (a : A) (e : Outcome) → Is start len a e → e.file ≡ None) → (o : Opening A) (e : Outcome)
    → Reports Is o e → e.file ≡ None
unfiled_report Is over (refused reason number) e h = ap (λ (o : Outcome). o.file) h
unfiled_report Is over absent e h = ap (λ (o : Outcome). o.file) h
unfiled_report Is over (here start len a) e h = over start len a e h

-- the answer of the check has no file
unfiled_answer : (a : Checked) → (answered a).file ≡ None
unfiled_answer (checked.Valid summary) = refl
unfiled_answer (checked.Failing failing) = refl
unfiled_answer (checked.Refused reason number) = refl
unfiled_answer checked.NoStore = refl

-- what is reported of a comparison has no file
pub unfiled_comparison : (what : Compared) (text : List ℕ) → (compare_outcome what text).file ≡ None
unfiled_comparison (compared.NotAccepted side a) text = refl
unfiled_comparison compared.DifferentClaims text = refl
unfiled_comparison (compared.Evidence kind) text = refl
unfiled_comparison (compared.Same summary) text = refl

-- what is reported of bytes that are to be signed has no file
unfiled_plan : (r : Result (List ℕ) BuildError) → (plan_outcome r).file ≡ None
unfiled_plan (Ok bytes) = refl
unfiled_plan (Err e) = refl

-- what is reported of bytes that are to be signed of a file with its store in front has no file
unfiled_plan_front : (r : Result (List ℕ) FrontRefusal) → (plan_front_outcome r).file ≡ None
unfiled_plan_front (Ok bytes) = refl
unfiled_plan_front (Err refusal) = refl

-- what is reported of bytes that are to be signed of a store that collects has no file
unfiled_plan_collect : (r : Result (List ℕ) CollectRefusal) → (plan_collect_outcome r).file ≡ None
unfiled_plan_collect (Ok bytes) = refl
unfiled_plan_collect (Err refusal) = refl

-- what is reported of the check with an external store has no file
unfiled_external : (e : External) → (external_outcome e).file ≡ None
unfiled_external (Of a) = unfiled_answer a
unfiled_external (StoreRefused reason number) = refl

-- ---- the commands

-- `digest`
pub digest_unfiled : (hash : List ℕ → List ℕ) (file : List ℕ) (e : Outcome) → IsDigestOutcome hash file e
    → e.file ≡ None
digest_unfiled hash file e h = unfiled_report _ (λ start len store x k. ap (λ (o : Outcome). o.file) k) h.0 e h.2

-- `list`
pub list_unfiled : (file : List ℕ) (e : Outcome) → IsListOutcome file e → e.file ≡ None
list_unfiled file e h = unfiled_report _ (λ start len t x k. ap (λ (o : Outcome). o.file) k) h.0 e h.2

-- `show`
pub show_unfiled : (file : List ℕ) (e : Outcome) → IsMediaOutcome IsShown file e → e.file ≡ None
show_unfiled file e h = unfiled_report _ (λ start len t x k. ap (λ (o : Outcome). o.file) k.2) h.0 e h.2

-- `questions`
pub questions_unfiled : (said : Question → Verdict) (file : List ℕ) (e : Outcome)
    → IsMediaOutcome (IsQuestioned said) file e → e.file ≡ None
questions_unfiled said file e h = unfiled_report _ (λ start len t x k. ap (λ (o : Outcome). o.file) k.2) h.0 e h.2

-- `validate`
pub validate_unfiled : (hash : Alg → List ℕ → List ℕ) (said : Question → Verdict) (file : List ℕ) (e : Outcome)
    → IsValidated hash said file e → e.file ≡ None
validate_unfiled hash said file e h = ap (λ (o : Outcome). o.file) h.2 ∙ unfiled_answer h.0

-- `validate-external`
pub external_unfiled : (hash : Alg → List ℕ → List ℕ) (said : Question → Verdict) (file store : List ℕ) (e : Outcome)
    → IsExternalOutcome hash said file store e → e.file ≡ None
external_unfiled hash said file store e h = ap (λ (o : Outcome). o.file) h.2 ∙ unfiled_external h.0

-- `compare`
pub compare_unfiled : (hash : Alg → List ℕ → List ℕ) (said : Question → Verdict) (first second : List ℕ) (e : Outcome)
    → IsCompareOutcome hash said first second e → e.file ≡ None
compare_unfiled hash said first second e h = ap (λ (o : Outcome). o.file) h.3 ∙ unfiled_comparison h.0 h.1

-- `plan`
pub plan_unfiled : (hash : Alg → List ℕ → List ℕ) (said : Question → Verdict) (media definition : List ℕ)
    (e : Outcome) → IsPlanOutcome hash said media definition e → e.file ≡ None
plan_unfiled hash said media definition e h = ap (λ (o : Outcome). o.file) h.2 ∙ unfiled_plan h.0

-- `plan-front`
pub plan_front_unfiled : (hash : Alg → List ℕ → List ℕ) (media definition : List ℕ) (e : Outcome)
    → IsPlanFrontOutcome hash media definition e → e.file ≡ None
plan_front_unfiled hash media definition e h = ap (λ (o : Outcome). o.file) h.2 ∙ unfiled_plan_front h.0

-- `plan-collect`
pub plan_collect_unfiled : (hash : Alg → List ℕ → List ℕ) (said : Question → Verdict) (media definition other : List ℕ) (e : Outcome)
    → IsPlanCollectOutcome hash said media definition other e → e.file ≡ None
plan_collect_unfiled hash said media definition other e h = ap (λ (o : Outcome). o.file) h.2 ∙ unfiled_plan_collect h.0

-- `sample`
pub sample_unfiled : (hash : Alg → List ℕ → List ℕ) (said : Question → Verdict) (n : ℕ) (e : Outcome)
    → IsSampleOutcome hash said n e → e.file ≡ None
sample_unfiled hash said n e h = ap (λ (o : Outcome). o.file) h.2 ∙ a_sample_writes_no_file n h.0
