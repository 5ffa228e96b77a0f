-- What `embed-collect` replies and writes, by the call below it.
use Rattle.c2_opening.proofs.TheLaws.{one_opening_file}
use Rattle.c2_collect_spec.proofs.TheLaws.{a_collected_build_comes_to_one_thing_made}
use Rattle.std.proofs.Common.{◌≡◌, refl, ℕ, Bool, List, Option}
use Rattle.std.specs.Prelude.{IfErr, IfOk, OnOk, Ok, Err}
use Rattle.std.specs.declared.result.Result.{Result}
use Rattle.c2_base.specs.declared.values.Question.{Question}
use Rattle.c2_copying.specs.Writing.{HasWritten}
use Rattle.c2_spec.specs.declared.digest.Alg.{Alg}
use Rattle.c2_spec.specs.declared.panel.Verdict.{Verdict}
use Rattle.c2_collect_spec.specs.Made.{CollectedMeets}
use Rattle.c2_collect_spec.specs.Order.{CollectRefusal}
use Rattle.c2_collect_spec.specs.Outcomes.{IsCollectMade, NewFile}
use Rattle.c2_build_refusals.specs.Sinks.{EndsOut}
use Rattle.c2_build_refusals.specs.declared.error.BuildError.{BuildError}
use Rattle.c2_build_refusals.specs.declared.types.Embedded.{Embedded}
use Rattle.c2_build_endings.specs.Endings.{build_ending}
use Rattle.c2_build_collect.specs.Errors.{error_of}
use Rattle.c2_build_collect.specs.Answers.{EmbedsCollected, IsCollectMet, Writes, file_of}
use Rattle.c2_cmd_outcome.specs.Left.{state_of}
use Rattle.c2_cmd_outcome.specs.Reply.{IsFaultOf, IsReplyTo}
use Rattle.c2_cmd_outcome.specs.declared.reply.Fault.{Fault}
use Rattle.c2_cmd_outcome.specs.declared.reply.Reply.{Reply}
use Rattle.c2_cmd_written_spec.specs.Builds.{build_says, embedded_outcome}
use Rattle.c2_cmd_written_spec.proofs.Builds.{WritesNew, build_ends, build_fits, build_met}
use Rattle.c2_cmd_written_spec.proofs.Calls.{makes_reply}
use Rattle.c2_cmd_written_spec.proofs.Left.{written_as}
use Rattle.c2_cmd_written_spec.proofs.Refused.{ComesWith, new_writes, writes_new}
use Rattle.c2_cmd_collect.specs.Outcomes.{IsEmbedCollectOutcome, file_bytes}
use Rattle.c2_cmd_collect.specs.Writing.{BuildsCollected}
use Rattle.c2_cmd_collect.proofs.Answered.{collect_outcome, file_same}

-- what the new file meets is met where one is answered
met_ok :
    (hash : Alg → List ℕ → List ℕ) (said : Question → Verdict) (media definition message other : List ℕ)
    (r : Result Embedded BuildError)
    → IsCollectMet hash said media definition message other r
    → OnOk r ((b : NewFile) → IsCollectMade hash said media definition message other (Ok b) → CollectedMeets hash said media definition message other b)
met_ok hash said media definition message other (Ok x) h = h
met_ok hash said media definition message other (Err e) h = tt

-- what is replied and written, and what that meets
pub collect_made :
    {K : Type 0} (written : K → Option (List ℕ)) (spare : K → Option ℕ) (finished : K → Bool)
    (hash : Alg → List ℕ → List ℕ) (said : Question → Verdict) (media definition message other : List ℕ) (old new : K)
    (r : Result Embedded BuildError) (reply : Result Reply Fault)
    → EmbedsCollected written spare finished hash said media definition message other old new r
    → EndsOut finished old new r
    → IfOk reply (IsReplyTo (build_says embedded_outcome r)) → IfErr reply (IsFaultOf (build_says embedded_outcome r))
    → BuildsCollected hash said media definition message other (state_of written finished old) (state_of written finished new) reply
collect_made {K} written spare finished hash said media definition message other old new r reply h ends reports fails = record {
  made = makes_reply written finished (WritesNew file_bytes (ComesWith error_of Is)) (IsEmbedCollectOutcome hash said media definition message other) old new (build_ending r) (build_says embedded_outcome r) reply
      (build_fits embedded_outcome r (λ x. refl)) wrote (build_ends finished old new r ends)
      (collect_outcome Is r one h.answered) reports fails;
  meets =
      build_met written finished old new embedded_outcome r reply ends reports
      (met_ok hash said media definition message other r h.meets);
}
  where
    Is : Result NewFile CollectRefusal → Type 0
    Is = IsCollectMade hash said media definition message other

    one : (a b : Result NewFile CollectRefusal) → IsCollectMade hash said media definition message other a
        → IsCollectMade hash said media definition message other b → a ≡ b
    one a b p q =
        a_collected_build_comes_to_one_thing_made hash said media definition message other a b (one_opening_file media)
        (one_opening_file other) p q

    wrote : HasWritten written finished (WritesNew file_bytes (ComesWith error_of Is)) old new (build_ending r)
    wrote = written_as written finished (Writes Is) (WritesNew file_bytes (ComesWith error_of Is)) old new (build_ending r)
        (writes_new error_of file_bytes Is file_of file_same) (new_writes error_of file_bytes Is file_of file_same)
        h.wrote.wrote
