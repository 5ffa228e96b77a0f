-- The laws of this crate, for the proofs of the crates above it.
use Rattle.c2_cmd_front.specs.Outcomes.{IsEmbedFrontOutcome, IsPlanFrontOutcome, embed_outcome, plan_outcome}
use Rattle.c2_cmd_outcome.specs.Outcome.{IsOneOutcome, Outcome}
use Rattle.c2_new_front_spec.proofs.TheLaws.{a_front_comes_to_one_thing_made, a_front_comes_to_one_thing_plan}
use Rattle.c2_new_front_spec.proofs.TheLaws.{each_front_comes_to_something_made, each_front_comes_to_something_plan}
use Rattle.c2_opening.proofs.TheLaws.{one_opening_file}
use Rattle.c2_spec.specs.declared.digest.Alg.{Alg}
use Rattle.c2_validate.proofs.TheLaws.{each_file_has_a_check_questions}
use Rattle.std.proofs.Common.{ap, refl, sym, ◌∙◌}
use Rattle.std.specs.Prelude.{All, List, ℕ, ◌<◌, ◌^◌}

-- `plan-front` comes to one outcome at most for what it is handed, and so does `embed-front`
pub one_front_outcome_plan : (hash : Alg → List ℕ → List ℕ) (media definition : List ℕ)
    → IsOneOutcome (IsPlanFrontOutcome hash media definition)
one_front_outcome_plan = λ hash media definition x y h k.
    h.2
    ∙ ap plan_outcome
    (a_front_comes_to_one_thing_plan hash media definition h.0 k.0 (one_opening_file media) h.1 k.1)
    ∙ sym k.2

-- `plan-front` comes to one outcome at most for what it is handed, and so does `embed-front`
pub one_front_outcome_embed : (hash : Alg → List ℕ → List ℕ) (media definition message : List ℕ)
    → IsOneOutcome (IsEmbedFrontOutcome hash media definition message)
one_front_outcome_embed = λ hash media definition message x y h k.
    h.2
    ∙ ap embed_outcome
    (a_front_comes_to_one_thing_made hash media definition message h.0 k.0 (one_opening_file media) h.1 k.1)
    ∙ sym k.2

-- `plan-front` comes to an outcome where the media is bytes, and so does `embed-front` where the message is bytes too
pub each_front_outcome_plan : (hash : Alg → List ℕ → List ℕ) (media definition : List ℕ) → All (λ b. b < 2 ^ 8) media
    → (expected : Outcome) × IsPlanFrontOutcome hash media definition expected
each_front_outcome_plan = λ hash media definition bytes.
    let q = each_file_has_a_check_questions media bytes in
    let r = each_front_comes_to_something_plan hash media definition q.1.0 q.1.1 in
    (plan_outcome r.0, (r.0, r.1, refl))

-- `plan-front` comes to an outcome where the media is bytes, and so does `embed-front` where the message is bytes too
pub each_front_outcome_embed : (hash : Alg → List ℕ → List ℕ) (media definition message : List ℕ)
    → All (λ b. b < 2 ^ 8) media → All (λ b. b < 2 ^ 8) message
    → (expected : Outcome) × IsEmbedFrontOutcome hash media definition message expected
each_front_outcome_embed = λ hash media definition message bytes more.
    let q = each_file_has_a_check_questions media bytes in
    let r = each_front_comes_to_something_made hash media definition message q.1.0 q.1.1 more in
    (embed_outcome r.0, (r.0, r.1, refl))
