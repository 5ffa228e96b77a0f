-- What is planned and built at a place, by the tests there.
use Rattle.std.proofs.Common.{◌≡◌, inl, inr, ℕ, List, refl, subst}
use Rattle.std.specs.Prelude.{Ok, Err}
use Rattle.c2_lemmas.proofs.Stages.{then_first, then_next, unless_some_fails, unless_some_passes}
use Rattle.c2_base.specs.declared.values.Question.{Question}
use Rattle.c2_spec.specs.C2pa.Sign1.{SignParts}
use Rattle.c2_spec.specs.declared.digest.Alg.{Alg}
use Rattle.c2_spec.specs.declared.panel.Verdict.{Verdict}
use Rattle.c2_definition.specs.declared.types.Definition.{Definition}
use Rattle.c2_new_file_spec.specs.Places.{IsPlace, Place}
use Rattle.c2_build_plain.specs.Building.{IsEmbeddedOn, IsEmbeddedOver, IsPlannedOn, IsPlannedOver, signed_bytes}
use Rattle.c2_build_refusals.specs.Stages.{IsGroundStage, IsPlaceStage, MediaKind}
use Rattle.c2_build_refusals.specs.Refusals.{Ground, first_refusal, ground_tests, late_tests, reserve_tests}
use Rattle.c2_build_plain.specs.Steps.{IsPassed, IsRefusedPlace}
use Rattle.c2_build_refusals.specs.declared.error.BuildError.{BuildError}
use Rattle.c2_build_refusals.proofs.Stages.{first_fails}

-- a place that is refused refuses a plan
pub refused_plan :
    (hash : Alg → List ℕ → List ℕ) (said : Question → Verdict) (media : List ℕ) (kind : MediaKind) (d : Definition)
    (e : BuildError)
    → IsRefusedPlace hash said media d kind e → IsPlannedOver hash said media kind d (Err e)
refused_plan hash said media kind d e (inl h) = then_first (IsGroundStage hash said media d kind) (IsPlannedOn hash) e h
refused_plan hash said media kind d e (inr h) =
    then_next (IsGroundStage hash said media d kind) (IsPlannedOn hash) h.0 (Err e) h.1
    (then_next (IsPlaceStage h.0.base) _ h.2.0 (Err e) h.2.1 (unless_some_fails (first_refusal (ground_tests h.0 h.2.0)) _ e h.2.2))

-- a place that is refused refuses a new file
pub refused_embedding :
    (hash : Alg → List ℕ → List ℕ) (said : Question → Verdict) (media : List ℕ) (kind : MediaKind) (d : Definition)
    (parts : SignParts) (e : BuildError)
    → IsRefusedPlace hash said media d kind e → IsEmbeddedOver hash said media kind d parts (Err e)
refused_embedding hash said media kind d parts e (inl h) =
    then_first (IsGroundStage hash said media d kind) (IsEmbeddedOn hash parts) e h
refused_embedding hash said media kind d parts e (inr h) =
    then_next (IsGroundStage hash said media d kind) (IsEmbeddedOn hash parts) h.0 (Err e) h.1
    (then_next (IsPlaceStage h.0.base) _ h.2.0 (Err e) h.2.1
    (unless_some_fails (first_refusal (late_tests h.0 parts h.2.0)) _ e (first_fails (ground_tests h.0 h.2.0) (reserve_tests h.0.content.definition parts) e h.2.2)))

-- a place that passes lets be planned
pub passed_plan :
    (hash : Alg → List ℕ → List ℕ) (said : Question → Verdict) (media : List ℕ) (kind : MediaKind) (d : Definition)
    (g : Ground) (p : Place)
    → IsPassed hash said media d kind g p → IsPlannedOver hash said media kind d (Ok (signed_bytes hash g p))
passed_plan hash said media kind d g p h =
    then_next (IsGroundStage hash said media d kind) (IsPlannedOn hash) g (Ok (signed_bytes hash g p)) h.ground
    (then_next (IsPlaceStage g.base) _ p (Ok (signed_bytes hash g p)) h.stage (unless_some_passes (first_refusal (ground_tests g p)) _ (Ok (signed_bytes hash g p)) h.numbers refl))

-- the place that was found is the file's
pub place_at : {base : List ℕ} {p : Place} → IsPlaceStage base (Ok p) → IsPlace base p
place_at {base} {p} h = let same : h.0 ≡ p = cc (h.2) in subst (IsPlace base) same h.1
