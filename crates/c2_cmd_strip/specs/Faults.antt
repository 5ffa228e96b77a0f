-- For private clauses: what the call below comes to, as an outcome or as a fault.
use Rattle.std.specs.declared.result.Result.{Result}
use Rattle.std.specs.declared.result.Result.TheVariants.{Ok, Err}
use Rattle.c2_strip.specs.declared.error.StripError.{StripError}
use Rattle.c2_strip.specs.declared.error.StripError.TheVariants.{ReadFault, WriteFault, NoMemory}
use Rattle.c2_strip.specs.declared.error.Stripped.{Stripped}
use Rattle.c2_cmd_outcome.specs.Outcome.{Outcome}
use Rattle.c2_cmd_outcome.specs.declared.reply.Fault.{Fault}
use Rattle.c2_cmd_outcome.specs.declared.reply.Fault.TheVariants.{Input, Output, Memory}
use Rattle.c2_cmd_strip.specs.Outcomes.{strip_report}

-- the fault that an error of the call stands for
abbrev pub strip_fault : StripError → Fault
strip_fault ReadFault = Input
strip_fault WriteFault = Output
strip_fault NoMemory = Memory

-- what the call comes to: what is reported of its answer, or its fault
abbrev pub strip_says : Result Stripped StripError → Result Outcome Fault
strip_says (Ok a) = Ok (strip_report a)
strip_says (Err e) = Err (strip_fault e)
