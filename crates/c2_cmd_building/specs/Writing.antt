-- What `embed` replies and writes.
use Rattle.std.specs.Prelude.{ℕ, List, Ok}
use Rattle.std.specs.declared.result.Result.{Result}
use Rattle.c2_base.specs.declared.values.Question.{Question}
use Rattle.c2_spec.specs.declared.digest.Alg.{Alg}
use Rattle.c2_spec.specs.declared.panel.Verdict.{Verdict}
use Rattle.c2_build_plain.specs.Building.{Built, IsEmbedded}
use Rattle.c2_build_plain.specs.Meeting.{BuiltMeets}
use Rattle.c2_cmd_outcome.specs.Left.{SinkState}
use Rattle.c2_cmd_outcome.specs.Reply.{HasWhole, MakesFile}
use Rattle.c2_cmd_outcome.specs.declared.reply.Fault.{Fault}
use Rattle.c2_cmd_outcome.specs.declared.reply.Reply.{Reply}
use Rattle.c2_cmd_building.specs.Outcomes.{IsEmbedOutcome}

-- Over known inputs, `embed` replies what it comes to and writes its file; and where this is whole, it meets every rule but that on its own
-- message's verdict.
pub record BuildsFile (hash : Alg → List ℕ → List ℕ) (said : Question → Verdict) (media definition message : List ℕ) (old new : SinkState) (result : Result Reply Fault) : Type 0 where
  pub made : MakesFile (IsEmbedOutcome hash said media definition message) old new result
  pub meets : HasWhole old new result → (b : Built) → IsEmbedded hash said media definition message (Ok b) → BuiltMeets hash said media definition message b
