-- The outcome of a command that writes a new file, and what is left of that file.
use Rattle.std.specs.Prelude.{ℕ, Bool, List}
use Rattle.std.specs.declared.option.Option.{Option}
use Rattle.std.specs.declared.result.Result.{Result}
use Rattle.c2_base.specs.Sink.{WritesSink, unsaid}
use Rattle.c2_cmd_outcome.specs.Outcome.{Outcome}
use Rattle.c2_cmd_outcome.specs.Reply.{EndsFile, IsOutputCause}
use Rattle.c2_cmd_outcome.specs.declared.reply.Fault.{Fault}
use Rattle.c2_cmd_outcome.specs.declared.reply.Reply.{Reply}

-- what is reported, with this new file or with none
abbrev pub with_file : Option (List ℕ) → Outcome → Outcome
with_file file o = record { answer = o.answer; report = o.report; file = file }

-- What is left of the sink for a new file by a command that writes one: what it took stays, an answer leaves its count of faults, its own
-- fault comes only where that rose, and whether it is finished.
pub record WritesOut {K : Type 0} (written : K → Option (List ℕ)) (finished : K → Bool) (faults : K → ℕ) (old new : K) (result : Result Reply Fault) : Type 0 where
  pub writes : WritesSink written unsaid faults IsOutputCause old new result
  pub ends : EndsFile finished faults old new result
