-- How a call ended that writes a new file, and what it leaves of its sink.
use Rattle.std.specs.Prelude.{ℕ, Bool, List}
use Rattle.std.specs.declared.option.Option.{Option}
use Rattle.std.specs.declared.result.Result.{Result}
use Rattle.std.specs.declared.result.Result.TheVariants.{Ok, Err}
use Rattle.c2_base.specs.Sink.{WritesSink, unsaid}
use Rattle.c2_copying.specs.Writing.{Ending, complete, read_fault, untouched, write_fault}
use Rattle.c2_build_refusals.specs.Kinds.{ErrorKind, kind_of}
use Rattle.c2_build_refusals.specs.Kinds as kind
use Rattle.c2_build_refusals.specs.Sinks.{EndsOut, IsOutCause}
use Rattle.c2_build_refusals.specs.declared.error.BuildError.{BuildError}

-- how a call ended by the kind of its error: a source failed while the file was written, or before; the sink did; or nothing was written
abbrev pub kind_ending : ErrorKind → Ending
kind_ending kind.read_fault = read_fault
kind_ending kind.write_fault = write_fault
kind_ending k = untouched

-- how a call ended by its result
abbrev pub build_ending : {A : Type 0} → Result A BuildError → Ending
build_ending (Ok a) = complete
build_ending (Err e) = kind_ending (kind_of e)

-- What a call that writes a new file does to its sink, whatever is known of its sources: what is known of it stays so, and its own fault comes only
-- where its count of faults rose; and how its end depends on the answer.
pub record WritesOut {K T : Type 0} (written : K → Option (List ℕ)) (faults : K → ℕ) (finished : K → Bool) (old new : K) (result : Result T BuildError) : Type 0 where
  pub writes : WritesSink written unsaid faults IsOutCause old new result
  pub ends : EndsOut finished old new result
