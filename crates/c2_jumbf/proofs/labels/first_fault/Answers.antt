use Rattle.std.proofs.Common.{refl}
use Rattle.c2_jumbf.specs.Labels.{IsFirstFault}
use Rattle.c2_jumbf.proofs.labels.first_fault.Goals as goal

pub returns-in-NoMemory : goal.returns-in-NoMemory
returns-in-NoMemory c = IsFirstFault.out_of_memory c.in-NoMemory.is refl

pub returns-in-Err : goal.returns-in-Err
returns-in-Err c = let w = c.in-Err.ensures.err in IsFirstFault.label w.0 c.in_default.not-NoMemory w.2 w.1
