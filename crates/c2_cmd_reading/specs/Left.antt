-- What `compare` leaves of its report.
use Rattle.std.specs.Prelude.{◌≡◌, ℕ, Bool, List, IfErr}
use Rattle.std.specs.declared.option.Option.{Option}
use Rattle.std.specs.declared.result.Result.{Result}
use Rattle.c2_base.specs.Sink.{WritesSink}
use Rattle.c2_cmd_outcome.specs.Reply.{IsOutputCause}
use Rattle.c2_cmd_outcome.specs.declared.reply.Fault.{Fault}
use Rattle.c2_cmd_outcome.specs.declared.reply.Fault.TheVariants.{Judge}
use Rattle.c2_cmd_outcome.specs.declared.reply.Reply.{Reply}

-- A call that may begin its report: what the report took stays, an answer leaves its count of faults, its own fault comes only where that rose, and
-- it isn't finished; and a judge that fails leaves it as it was.
pub record BeginsReport {W : Type 0} (written : W → Option (List ℕ)) (finished : W → Bool) (faults : W → ℕ) (old new : W) (result : Result Reply Fault) : Type 0 where
  pub writes : WritesSink written finished faults IsOutputCause old new result
  pub judged : IfErr result (λ e. e ≡ Judge → new ≡ old)
