-- What `embed-front` replies and writes.
use Rattle.std.specs.Prelude.{ℕ, List, Ok}
use Rattle.std.specs.declared.result.Result.{Result}
use Rattle.c2_spec.specs.declared.digest.Alg.{Alg}
use Rattle.c2_new_front_spec.specs.Made.{FrontMeets}
use Rattle.c2_new_front_spec.specs.Outcomes.{IsFrontMade, NewFile}
use Rattle.c2_cmd_outcome.specs.Left.{SinkState}
use Rattle.c2_cmd_outcome.specs.Reply.{HasWhole, MakesFile}
use Rattle.c2_cmd_outcome.specs.declared.reply.Fault.{Fault}
use Rattle.c2_cmd_outcome.specs.declared.reply.Reply.{Reply}
use Rattle.c2_cmd_front.specs.Outcomes.{IsEmbedFrontOutcome}

-- Over known inputs, `embed-front` replies what it comes to and writes its file; and where this is whole, it meets every rule but that on its
-- own message's verdict, and each chunk offset of the media from the new store's place on tells where the same byte is.
pub record BuildsFront (hash : Alg → List ℕ → List ℕ) (media definition message : List ℕ) (old new : SinkState) (result : Result Reply Fault) : Type 0 where
  pub made : MakesFile (IsEmbedFrontOutcome hash media definition message) old new result
  pub meets : HasWhole old new result → (b : NewFile) → IsFrontMade hash media definition message (Ok b) → FrontMeets hash media definition message b
