-- What `embed` replies and writes, by the call below it.
use Rattle.c2_build_plain.proofs.TheLaws.{a_build_comes_to_one_thing_embedding}
use Rattle.std.proofs.Common.{◌≡◌, refl, sym, ap, ◌∙◌, ℕ, Bool, List, Option}
use Rattle.std.specs.Prelude.{IfErr, IfOk, OnOk, Ok, Err}
use Rattle.std.specs.declared.result.Result.{Result}
use Rattle.c2_base.specs.declared.values.Question.{Question}
use Rattle.c2_copying.specs.Writing.{HasWritten}
use Rattle.c2_spec.specs.declared.digest.Alg.{Alg}
use Rattle.c2_spec.specs.declared.panel.Verdict.{Verdict}
use Rattle.c2_build_refusals.specs.Kinds.{ComesAs}
use Rattle.c2_build_refusals.specs.Sinks.{EndsOut}
use Rattle.c2_build_refusals.specs.declared.error.BuildError.{BuildError}
use Rattle.c2_build_refusals.specs.declared.types.Embedded.{Embedded}
use Rattle.c2_build_endings.specs.Endings.{build_ending}
use Rattle.c2_build_plain.specs.Answers.{EmbedsFile, HasRange, Writes, file_of}
use Rattle.c2_build_plain.specs.Building.{Built, IsEmbedded}
use Rattle.c2_build_plain.specs.Meeting.{BuiltMeets, IsBuildMet}
use Rattle.c2_cmd_outcome.specs.Left.{state_of}
use Rattle.c2_cmd_outcome.specs.Outcome.{IsOneOutcome}
use Rattle.c2_cmd_outcome.specs.Reply.{IsFaultOf, IsReplyTo}
use Rattle.c2_cmd_outcome.specs.declared.reply.Fault.{Fault}
use Rattle.c2_cmd_outcome.specs.declared.reply.Reply.{Reply}
use Rattle.c2_cmd_written_spec.specs.Builds.{build_says, embedded_outcome}
use Rattle.c2_cmd_written_spec.proofs.Builds.{WritesNew, build_ends, build_fits, build_met, build_outcome, new_bytes, range_reported}
use Rattle.c2_cmd_written_spec.proofs.Calls.{makes_reply}
use Rattle.c2_cmd_written_spec.proofs.Left.{written_as}
use Rattle.c2_cmd_building.specs.Outcomes.{IsEmbedOutcome, embed_outcome, file_bytes, file_report}
use Rattle.c2_cmd_building.specs.Writing.{BuildsFile}

-- a range or an error that is answered is what the inputs come to
range_comes : (Is : Result Built BuildError → Type 0) (r : Result Embedded BuildError) → ComesAs HasRange Is r
    → ComesAs (λ (x : Embedded) (b : Built). embedded_outcome x ≡ file_report b) Is r
range_comes Is (Ok x) h = (h.0, h.1, range_reported x h.0.start h.0.len h.2.start h.2.length)
range_comes Is (Err e) h = h

-- the bytes of what the inputs come to
file_same : (r : Result Built BuildError) → file_of r ≡ new_bytes file_bytes r
file_same (Ok b) = refl
file_same (Err e) = refl

-- what the new file meets is met where one is answered
met_ok :
    (hash : Alg → List ℕ → List ℕ) (said : Question → Verdict) (media definition message : List ℕ)
    (r : Result Embedded BuildError)
    → IsBuildMet hash said media definition message r
    → OnOk r ((b : Built) → IsEmbedded hash said media definition message (Ok b) → BuiltMeets hash said media definition message b)
met_ok hash said media definition message (Ok x) h = h
met_ok hash said media definition message (Err e) h = tt

-- `embed` has one outcome
pub one_embedding :
    (hash : Alg → List ℕ → List ℕ) (said : Question → Verdict) (media definition message : List ℕ)
    → IsOneOutcome (IsEmbedOutcome hash said media definition message)
one_embedding hash said media definition message x y h k =
    h.2
    ∙ ap embed_outcome (a_build_comes_to_one_thing_embedding hash said media definition message h.0 k.0 h.1 k.1)
    ∙ sym k.2

-- what is replied and written, and what that meets
pub file_made :
    {K : Type 0} (written : K → Option (List ℕ)) (spare : K → Option ℕ) (finished : K → Bool)
    (hash : Alg → List ℕ → List ℕ) (said : Question → Verdict) (media definition message : List ℕ) (old new : K)
    (r : Result Embedded BuildError) (reply : Result Reply Fault)
    → EmbedsFile written spare finished hash said media definition message old new r
    → EndsOut finished old new r
    → IfOk reply (IsReplyTo (build_says embedded_outcome r)) → IfErr reply (IsFaultOf (build_says embedded_outcome r))
    → BuildsFile hash said media definition message (state_of written finished old) (state_of written finished new) reply
file_made {K} written spare finished hash said media definition message old new r reply h ends reports fails = record {
  made = makes_reply written finished (WritesNew file_bytes Is) (IsEmbedOutcome hash said media definition message) old new (build_ending r) (build_says embedded_outcome r) reply
      (build_fits embedded_outcome r (λ x. refl)) wrote (build_ends finished old new r ends)
      (build_outcome file_bytes file_report Is embedded_outcome r
      (λ x y. a_build_comes_to_one_thing_embedding hash said media definition message x y) (range_comes Is r h.answered))
      reports fails;
  meets =
      build_met written finished old new embedded_outcome r reply ends reports
      (met_ok hash said media definition message r h.meets);
}
  where
    Is : Result Built BuildError → Type 0
    Is = IsEmbedded hash said media definition message

    wrote : HasWritten written finished (WritesNew file_bytes Is) old new (build_ending r)
    wrote = written_as written finished (Writes Is) (WritesNew file_bytes Is) old new (build_ending r)
        (λ bytes w. (w.0, w.1, w.2 ∙ file_same w.0)) (λ bytes w. (w.0, w.1, w.2 ∙ sym (file_same w.0)))
        h.wrote.wrote
