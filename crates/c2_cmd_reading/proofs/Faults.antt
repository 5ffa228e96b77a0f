-- Faults of calls below as faults of a command: their causes, and how far their questions came.
use Rattle.std.proofs.Common.{◌≡◌, ◌≢◌, ◌∙◌, refl, sym, subst, ℕ, Result, Ok, Err, IfErr}
use Rattle.std.specs.Prelude.{⊤}
use Rattle.c2_base.specs.Causes.{Rose}
use Rattle.c2_compare.specs.Comparing.{compare_heard}
use Rattle.c2_compare_evidence.specs.Causes as compared
use Rattle.c2_compare_evidence.specs.declared.error.CompareError.{CompareError}
use Rattle.c2_compare_evidence.specs.declared.error.CompareError.TheVariants as compare
use Rattle.c2_opening.specs.declared.error.ValidateError.{ValidateError}
use Rattle.c2_opening.specs.declared.error.ValidateError.TheVariants.{ReadFault, JudgeFault, NoMemory}
use Rattle.c2_rules.specs.Asking.{all, broken, part}
use Rattle.c2_sidecar.specs.Checking as external
use Rattle.c2_validate.specs.Checked as checked
use Rattle.c2_cmd_outcome.specs.Reply.{CausedBy, IsInputCause, IsMediaCause, IsOutputCause, IsPanelCause, IsReadingCause, fault_heard, fault_of}
use Rattle.c2_cmd_outcome.specs.declared.reply.Fault.{Fault}
use Rattle.c2_cmd_outcome.specs.declared.reply.Fault.TheVariants.{Input, Output, Judge, Memory}
use Rattle.c2_cmd_reading.specs.Reading.{compare_fault}

-- ---- want of memory

-- what holds of want of memory holds of a result that fails for nothing else
pub memory_only : {T : Type 0} (P : Fault → Type 0) (r : Result T Fault) → P Memory → IfErr r (λ e. e ≡ Memory)
    → IfErr r P
memory_only P (Ok x) h memory = tt
memory_only P (Err e) h memory = subst P (sym memory) h

-- no judge fails such a call
pub unbroken : {T : Type 0} (r : Result T Fault) → IfErr r (λ e. e ≡ Memory) → IfErr r (λ e. fault_heard e ≢ broken)
unbroken r memory = memory_only (λ (f : Fault). fault_heard f ≢ broken) r (λ same. cc (same)) memory

-- ---- a call that only asks

-- a call that only asks has not asked all when it fails
pub not_all : (f : Fault) → CausedBy ⊥ ⊥ ⊤ f → fault_heard f ≢ all
not_all Input cause = absurd cause
not_all Output cause = absurd cause
not_all Judge cause = λ same. cc (same)
not_all Memory cause = λ same. cc (same)

-- the faults of a call that only asks have their cause in a call that reads besides
pub asking_cause : {T : Type 0} (before now : ℕ) (r : Result T Fault) → IfErr r (CausedBy ⊥ ⊥ ⊤)
    → IfErr r (IsPanelCause before now)
asking_cause before now (Ok x) h = tt
asking_cause before now (Err e) h = by e h
  where
    by : (f : Fault) → CausedBy ⊥ ⊥ ⊤ f → IsPanelCause before now f
    by Input h = absurd h
    by Output h = absurd h
    by Judge h = tt
    by Memory h = tt

-- ---- a call that only reads

-- a call that only reads has asked nobody
pub nobody_asked : (before now : ℕ) (f : Fault) → IsMediaCause before now f → part ≡ fault_heard f
nobody_asked before now Input h = refl
nobody_asked before now Output h = absurd h
nobody_asked before now Judge h = absurd h
nobody_asked before now Memory h = refl

-- the faults of a call that only reads have their cause in a call that asks besides
pub media_cause : (before now : ℕ) (f : Fault) → IsMediaCause before now f → IsPanelCause before now f
media_cause before now Input h = h
media_cause before now Output h = absurd h
media_cause before now Judge h = absurd h
media_cause before now Memory h = tt

-- ---- the check

-- an error of the check says as much of the questions as its fault
pub check_heard : (e : ValidateError) (f : Fault) → f ≡ fault_of e → checked.validate_heard e ≡ fault_heard f
check_heard e f is = subst (λ (x : Fault). checked.validate_heard e ≡ fault_heard x) (sym is) (by e)
  where
    by : (e : ValidateError) → checked.validate_heard e ≡ fault_heard (fault_of e)
    by ReadFault = refl
    by JudgeFault = refl
    by NoMemory = refl

-- the cause of an error of the check of a file
pub check_cause : (before now : ℕ) (e : ValidateError) (f : Fault) → f ≡ fault_of e
    → checked.IsCheckReadCause before now e → IsPanelCause before now f
check_cause before now e f is h = subst (IsPanelCause before now) (sym is) (by e h)
  where
    by : (e : ValidateError) → checked.IsCheckReadCause before now e → IsPanelCause before now (fault_of e)
    by ReadFault h = h
    by JudgeFault h = tt
    by NoMemory h = tt

-- the cause of an error of the check of a file with an external store
pub external_cause : (other_before other_now before now : ℕ) (e : ValidateError) (f : Fault) → f ≡ fault_of e
    → external.IsSourceCause other_before other_now before now e
    → IsReadingCause (Rose other_before other_now) before now f
external_cause other_before other_now before now e f is h = subst (IsReadingCause (Rose other_before other_now) before now) (sym is) (by e h)
  where
    by : (e : ValidateError) → external.IsSourceCause other_before other_now before now e
        → IsReadingCause (Rose other_before other_now) before now (fault_of e)
    by ReadFault h = h
    by JudgeFault h = tt
    by NoMemory h = tt

-- ---- the comparison

-- an error of the comparison says as much of the questions as its fault
pub comparison_heard : (e : CompareError) (f : Fault) → f ≡ compare_fault e → compare_heard e ≡ fault_heard f
comparison_heard e f is = subst (λ (x : Fault). compare_heard e ≡ fault_heard x) (sym is) (by e)
  where
    by : (e : CompareError) → compare_heard e ≡ fault_heard (compare_fault e)
    by compare.ReadFault = refl
    by compare.WriteFault = refl
    by compare.JudgeFault = refl
    by compare.NoMemory = refl

-- the cause of an error of it, of one of the two sources
pub comparison_cause : (other_before other_now before now : ℕ) (e : CompareError) (f : Fault) → f ≡ compare_fault e
    → compared.IsReadCauseBeside other_before other_now before now e
    → IsInputCause (Rose other_before other_now) before now f
comparison_cause other_before other_now before now e f is h = subst (IsInputCause (Rose other_before other_now) before now) (sym is) (by e h)
  where
    by : (e : CompareError) → compared.IsReadCauseBeside other_before other_now before now e
        → IsInputCause (Rose other_before other_now) before now (compare_fault e)
    by compare.ReadFault h = h
    by compare.WriteFault h = tt
    by compare.JudgeFault h = tt
    by compare.NoMemory h = tt

-- the cause of an error of a comparison, as one of the report
pub report_cause : (before now : ℕ) (e : CompareError) (f : Fault) → f ≡ compare_fault e
    → compared.IsReportCause before now e → IsOutputCause before now f
report_cause before now e f is h = subst (IsOutputCause before now) (sym is) (by e h)
  where
    by : (e : CompareError) → compared.IsReportCause before now e → IsOutputCause before now (compare_fault e)
    by compare.ReadFault h = tt
    by compare.WriteFault h = h
    by compare.JudgeFault h = tt
    by compare.NoMemory h = tt

-- a judge fails the command where one failed the comparison
pub judge_failed : (claim : Type 0) (e : CompareError) (f : Fault) → f ≡ compare_fault e
    → (e ≡ compare.JudgeFault → claim) → f ≡ Judge → claim
judge_failed claim e f is h judge = by e (sym is ∙ judge) h
  where
    by : (e : CompareError) → compare_fault e ≡ Judge → (e ≡ compare.JudgeFault → claim) → claim
    by compare.ReadFault same h = absurd (cc (same))
    by compare.WriteFault same h = absurd (cc (same))
    by compare.JudgeFault same h = h refl
    by compare.NoMemory same h = absurd (cc (same))
