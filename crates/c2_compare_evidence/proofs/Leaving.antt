-- What the errors of two calls come from, one beside the other.
use Rattle.std.proofs.Common.{inl, inr, ℕ, List, Option, Result, Ok, Err, IfErr, OnErr}
use Rattle.c2_base.specs.Causes.{Rose}
use Rattle.c2_base.specs.Source.{ReadsSource}
use Rattle.c2_base.specs.declared.outside.Failed.{Failed}
use Rattle.c2_compare_evidence.specs.Causes.{IsFailure, IsFault, IsLoneCause, IsReadCauseBeside, IsUnjudged}
use Rattle.c2_compare_evidence.specs.declared.error.CompareError.{CompareError}
use Rattle.c2_compare_evidence.specs.declared.error.CompareError.TheVariants.{ReadFault, WriteFault, JudgeFault, NoMemory}

-- a failure has its cause
pub failed_cause : {T : Type 0} (before now : ℕ) (r : Result T Failed) → OnErr r (Rose before now)
    → IfErr r (IsFailure before now)
failed_cause before now (Ok x) h = tt
failed_cause before now (Err e) h = h

-- the cause of an error of a source that is read alone is one of a source beside another
lone_cause : {T : Type 0} (other_before other_now before now : ℕ) (r : Result T CompareError)
    → IfErr r (IsLoneCause before now)
    → IfErr r (IsReadCauseBeside other_before other_now before now)
lone_cause other_before other_now before now (Ok x) h = tt
lone_cause other_before other_now before now (Err ReadFault) h = inl h
lone_cause other_before other_now before now (Err WriteFault) h = tt
lone_cause other_before other_now before now (Err JudgeFault) h = tt
lone_cause other_before other_now before now (Err NoMemory) h = tt

-- a source that is read alone was read beside the other
pub reads_lone :
    {S T : Type 0} {len : S → ℕ} {known : S → Option (List ℕ)} {faults : S → ℕ} (other_before other_now : ℕ) (a b : S)
    (r : Result T CompareError)
    → ReadsSource len known faults IsLoneCause a b r
    → ReadsSource len known faults (IsReadCauseBeside other_before other_now) a b r
reads_lone {S} {T} {len} {known} {faults} other_before other_now a b r h =
    record
    { stays = h.stays; quiet = h.quiet; cause = lone_cause other_before other_now (faults a) (faults b) r h.cause }

-- the cause of an error of a source that is read alone is one of the source beside it
pub cause_beside : {T : Type 0} (before now other_before other_now : ℕ) (r : Result T CompareError)
    → IfErr r (IsLoneCause before now)
    → IfErr r (IsReadCauseBeside before now other_before other_now)
cause_beside before now other_before other_now (Ok x) h = tt
cause_beside before now other_before other_now (Err ReadFault) h = inr h
cause_beside before now other_before other_now (Err WriteFault) h = tt
cause_beside before now other_before other_now (Err JudgeFault) h = tt
cause_beside before now other_before other_now (Err NoMemory) h = tt

-- a call that takes no memory asks no judge
pub unjudged_fault : {T : Type 0} (r : Result T CompareError) → IfErr r IsFault → IfErr r IsUnjudged
unjudged_fault (Ok x) h = tt
unjudged_fault (Err ReadFault) h = tt
unjudged_fault (Err WriteFault) h = tt
unjudged_fault (Err JudgeFault) h = h
unjudged_fault (Err NoMemory) h = tt
