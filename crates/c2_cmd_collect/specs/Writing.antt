-- What `embed-collect` replies and writes.
use Rattle.std.specs.Prelude.{ℕ, Bool, List, IfOk, Ok}
use Rattle.std.specs.declared.option.Option.{Option}
use Rattle.std.specs.declared.result.Result.{Result}
use Rattle.c2_base.specs.declared.values.Question.{Question}
use Rattle.c2_spec.specs.declared.digest.Alg.{Alg}
use Rattle.c2_spec.specs.declared.panel.Verdict.{Verdict}
use Rattle.c2_collect_spec.specs.Made.{CollectedMeets}
use Rattle.c2_collect_spec.specs.Outcomes.{IsCollectMade, NewFile}
use Rattle.c2_build_refusals.specs.Kinds.{Effects}
use Rattle.c2_cmd_outcome.specs.Left.{SinkState}
use Rattle.c2_cmd_outcome.specs.Reply.{HasWhole, MakesFile}
use Rattle.c2_cmd_outcome.specs.declared.reply.Fault.{Fault}
use Rattle.c2_cmd_outcome.specs.declared.reply.Reply.{Reply}
use Rattle.c2_cmd_written_spec.specs.Builds.{IsBuildReply, IsRefusedBy, embedded_outcome}
use Rattle.c2_cmd_written_spec.specs.Written.{WritesOut}
use Rattle.c2_cmd_collect.specs.Outcomes.{IsEmbedCollectOutcome}

-- Over known inputs, `embed-collect` replies what it comes to and writes its file; and where this is whole, it has the new store that collects
-- from both files, and meets every rule but that on its own message's verdict.
pub record BuildsCollected (hash : Alg → List ℕ → List ℕ) (said : Question → Verdict) (media definition message other : List ℕ) (old new : SinkState) (result : Result Reply Fault) : Type 0 where
  pub made : MakesFile (IsEmbedCollectOutcome hash said media definition message other) old new result
  pub meets : HasWhole old new result → (b : NewFile) → IsCollectMade hash said media definition message other (Ok b)
      → CollectedMeets hash said media definition message other b

-- Whatever the files hold: what is replied is that a file is built, or a refusal that a call which does this may come to; and what is left of the
-- sink for the new file.
pub record EndsBuild {K : Type 0} (written : K → Option (List ℕ)) (finished : K → Bool) (faults : K → ℕ) (does : Effects) (old new : K) (result : Result Reply Fault) : Type 0 where
  pub within : IfOk result (IsBuildReply (IsRefusedBy does) embedded_outcome)
  pub out : WritesOut written finished faults old new result
