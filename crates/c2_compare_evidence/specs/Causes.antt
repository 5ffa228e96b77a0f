-- What the errors of a call come from, by counts of faults before and after.
use Rattle.std.specs.Prelude.{◌⊎◌, ℕ, ⊤}
use Rattle.c2_base.specs.Causes.{Rose}
use Rattle.c2_base.specs.declared.outside.Failed.{Failed}
use Rattle.c2_compare_evidence.specs.declared.error.CompareError.{CompareError}
use Rattle.c2_compare_evidence.specs.declared.error.CompareError.TheVariants.{ReadFault, WriteFault, JudgeFault, NoMemory}

-- a call that touches one object alone fails only where that object did
abbrev pub IsFailure : ℕ → ℕ → Failed → Type 0
IsFailure before now failed = Rose before now

-- The cause of an error, as far as it is one of a source that is read beside another, whose count of faults is given first: `ReadFault`
-- comes only where one of the two failed.
abbrev pub IsReadCauseBeside : ℕ → ℕ → ℕ → ℕ → CompareError → Type 0
IsReadCauseBeside other_before other_now before now ReadFault = Rose before now ⊎ Rose other_before other_now
IsReadCauseBeside other_before other_now before now WriteFault = ⊤
IsReadCauseBeside other_before other_now before now JudgeFault = ⊤
IsReadCauseBeside other_before other_now before now NoMemory = ⊤

-- the cause of an error, as far as it is one of the only source of a call: `ReadFault` comes only where that source failed
abbrev pub IsLoneCause : ℕ → ℕ → CompareError → Type 0
IsLoneCause before now ReadFault = Rose before now
IsLoneCause before now WriteFault = ⊤
IsLoneCause before now JudgeFault = ⊤
IsLoneCause before now NoMemory = ⊤

-- the cause of an error, as far as it is one of the report: `WriteFault` comes only where the report failed
abbrev pub IsReportCause : ℕ → ℕ → CompareError → Type 0
IsReportCause before now ReadFault = ⊤
IsReportCause before now WriteFault = Rose before now
IsReportCause before now JudgeFault = ⊤
IsReportCause before now NoMemory = ⊤

-- an error of a call that asks no judge
abbrev pub IsUnjudged : CompareError → Type 0
IsUnjudged ReadFault = ⊤
IsUnjudged WriteFault = ⊤
IsUnjudged JudgeFault = ⊥
IsUnjudged NoMemory = ⊤

-- an error of a call that asks no judge and writes nothing
abbrev pub IsOfReading : CompareError → Type 0
IsOfReading ReadFault = ⊤
IsOfReading WriteFault = ⊥
IsOfReading JudgeFault = ⊥
IsOfReading NoMemory = ⊤

-- an error of a call that asks no judge and takes no memory
abbrev pub IsFault : CompareError → Type 0
IsFault ReadFault = ⊤
IsFault WriteFault = ⊤
IsFault JudgeFault = ⊥
IsFault NoMemory = ⊥
