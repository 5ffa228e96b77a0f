-- Errors of a call that writes nothing.
use Rattle.std.proofs.Common.{ℕ}
use Rattle.c2_compare_evidence.specs.Causes.{IsOfReading, IsUnjudged, IsReportCause}
use Rattle.c2_compare_evidence.specs.declared.error.CompareError.{CompareError}
use Rattle.c2_compare_evidence.specs.declared.error.CompareError.TheVariants.{ReadFault, WriteFault, JudgeFault, NoMemory}

-- none is a judge's
pub unjudged_reading : (e : CompareError) → IsOfReading e → IsUnjudged e
unjudged_reading ReadFault h = tt
unjudged_reading WriteFault h = tt
unjudged_reading JudgeFault h = h
unjudged_reading NoMemory h = tt

-- none is the report's
pub unwritten_reading : (before now : ℕ) (e : CompareError) → IsOfReading e → IsReportCause before now e
unwritten_reading before now ReadFault h = tt
unwritten_reading before now WriteFault h = absurd h
unwritten_reading before now JudgeFault h = tt
unwritten_reading before now NoMemory h = tt
