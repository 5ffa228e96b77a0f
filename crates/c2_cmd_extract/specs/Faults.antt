-- For private clauses: what the call below comes to, as an outcome or as a fault.
use Rattle.std.specs.declared.result.Result.{Result}
use Rattle.std.specs.declared.result.Result.TheVariants.{Ok, Err}
use Rattle.c2_sidecar.specs.declared.error.ExtractError.{ExtractError}
use Rattle.c2_sidecar.specs.declared.error.ExtractError.TheVariants.{ReadFault, WriteFault, NoMemory}
use Rattle.c2_sidecar.specs.declared.error.Extracted.{Extracted}
use Rattle.c2_cmd_outcome.specs.Outcome.{Outcome}
use Rattle.c2_cmd_outcome.specs.declared.reply.Fault.{Fault}
use Rattle.c2_cmd_outcome.specs.declared.reply.Fault.TheVariants.{Input, Output, Memory}
use Rattle.c2_cmd_extract.specs.Outcomes.{extract_report}

-- the fault that an error of the call stands for
abbrev pub extract_fault : ExtractError → Fault
extract_fault ReadFault = Input
extract_fault WriteFault = Output
extract_fault NoMemory = Memory

-- what the call comes to: what is reported of its answer, or its fault
abbrev pub extract_says : Result Extracted ExtractError → Result Outcome Fault
extract_says (Ok a) = Ok (extract_report a)
extract_says (Err e) = Err (extract_fault e)
