-- What inputs come to in front of a BMFF file, told by the errors of a build.
use Rattle.std.proofs.Common.{◌≡◌, refl, ap, ◌∙◌, ℕ, List}
use Rattle.std.specs.Prelude.{IfOk, Ok, Err}
use Rattle.std.specs.declared.result.Result.{Result}
use Rattle.c2_new_front_spec.specs.Order.{FrontRefusal}
use Rattle.c2_new_front_spec.specs.Outcomes.{NewFile}
use Rattle.c2_build_refusals.specs.Kinds.{ComesAs, HasOutcome}
use Rattle.c2_build_refusals.specs.declared.error.BuildError.{BuildError}
use Rattle.c2_build_refusals.specs.declared.types.Embedded.{Embedded}
use Rattle.c2_build_front.specs.Answers.{IsRangeOf, file_of}
use Rattle.c2_build_front.specs.Errors.{IsAnswerTo, error_of}
use Rattle.c2_cmd_outcome.specs.Outcome.{Outcome}
use Rattle.c2_cmd_outcome.specs.Reply.{IsReplyTo, outcome_of}
use Rattle.c2_cmd_outcome.specs.declared.reply.Fault.{Fault}
use Rattle.c2_cmd_outcome.specs.declared.reply.Reply.{Reply}
use Rattle.c2_cmd_written_spec.specs.Builds.{build_says, embedded_outcome, result_outcome, tbs_outcome}
use Rattle.c2_build_endings.specs.Endings.{build_ending}
use Rattle.c2_cmd_written_spec.proofs.Builds.{WritesNew, build_outcome, build_replied, new_bytes, range_reported}
use Rattle.c2_cmd_written_spec.specs.Refused.{with_error}
use Rattle.c2_cmd_written_spec.proofs.Calls.{IsOutcomeOf}
use Rattle.c2_cmd_written_spec.proofs.Refused.{ComesWith, one_with, refused_comes}
use Rattle.c2_cmd_front.specs.Outcomes.{embed_outcome, file_bytes, file_report, plan_outcome}

-- a value or an error that is answered is what the inputs come to
answer_comes : {A : Type 0} (Is : Result A FrontRefusal → Type 0) (r : Result A BuildError) → IsAnswerTo Is r
    → HasOutcome (ComesWith error_of Is) r
answer_comes Is (Ok a) h = (Ok a, h, refl)
answer_comes Is (Err e) h = refused_comes error_of Is e h

-- the reply to a plan reports what the inputs come to
pub plan_replied : (Is : Result (List ℕ) FrontRefusal → Type 0) (r : Result (List ℕ) BuildError) (reply : Result Reply Fault)
    → IsAnswerTo Is r → IfOk reply (IsReplyTo (build_says tbs_outcome r))
    → IfOk reply (λ x. (s : Result (List ℕ) FrontRefusal) × Is s × (outcome_of x ≡ plan_outcome s))
plan_replied Is r (Ok x) answers reports =
    let t : (s : Result (List ℕ) BuildError) × ComesWith error_of Is s × (outcome_of x ≡ result_outcome tbs_outcome s) =
    build_replied tbs_outcome (ComesWith error_of Is) r (Ok x) (answer_comes Is r answers) reports in
    (t.1.0, t.1.1, t.2 ∙ ap (result_outcome tbs_outcome) t.1.2)
plan_replied Is r (Err f) answers reports = tt

-- ---- a new file

-- a range or an error that is answered is what the inputs come to
range_comes : (Is : Result NewFile FrontRefusal → Type 0) (r : Result Embedded BuildError) → IsRangeOf Is r
    → ComesAs (λ (x : Embedded) (b : NewFile). embedded_outcome x ≡ file_report b) (ComesWith error_of Is) r
range_comes Is (Ok x) h = (h.0, (Ok h.0, h.1, refl), range_reported x h.0.start h.0.len h.2.start h.2.length)
range_comes Is (Err e) h = refused_comes error_of Is e h

-- the bytes of what the inputs come to
pub file_same : (r : Result NewFile FrontRefusal) → file_of r ≡ new_bytes file_bytes (with_error error_of r)
file_same (Ok b) = refl
file_same (Err refusal) = refl

-- the outcome of `embed-front` is what the call came to
pub front_outcome : (Is : Result NewFile FrontRefusal → Type 0) (r : Result Embedded BuildError)
    → ((a b : Result NewFile FrontRefusal) → Is a → Is b → a ≡ b) → IsRangeOf Is r
    → (expected : Outcome) → ((s : Result NewFile FrontRefusal) × Is s × (expected ≡ embed_outcome s))
    → IsOutcomeOf (WritesNew file_bytes (ComesWith error_of Is)) (build_ending r) (build_says embedded_outcome r) expected
front_outcome Is r one answered expected is =
    build_outcome file_bytes file_report (ComesWith error_of Is) embedded_outcome r (one_with error_of Is one)
    (range_comes Is r answered) expected
    (with_error error_of is.0, (is.0, is.1, refl), is.2)
