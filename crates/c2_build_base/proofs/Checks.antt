-- The check of a media file's store, as a step of a build: the causes of its faults, and what judges hear in it.
use Rattle.std.proofs.Common.{◌≡◌, inl, ℕ, List, refl, sym, subst}
use Rattle.std.specs.Prelude.{IfErr, Result, Ok, Err}
use Rattle.c2_base.specs.declared.values.Question.{Question}
use Rattle.c2_opening.specs.declared.error.ValidateError.{ValidateError}
use Rattle.c2_opening.specs.declared.error.ValidateError.TheVariants as error
use Rattle.c2_validate.specs.Checked.{IsCheckReadCause as CheckCause, validate_heard}
use Rattle.c2_build_refusals.specs.Kinds.{IsAskCause, build_heard, fault_of, kind_of}
use Rattle.c2_build_refusals.specs.declared.error.BuildError.{BuildError}
use Rattle.std.specs.declared.alloc.Global.{Global}
use Rattle.std.specs.declared.vec.Vec.{Vec}
use Rattle.c2_spec.specs.declared.panel.Verdict.{Verdict}
use Rattle.c2_rules.specs.Asking.{HearsPanel}
use Rattle.c2_calls_spec.proofs.PanelLemmas.{hears_error, hears_later}
use Rattle.c2_build_refusals.proofs.Judged.{IsUnjudged, never_broken}

-- a fault of the check
pub fault_cause : (m n : ℕ) (e : ValidateError) → CheckCause m n e → IsAskCause m n (fault_of e)
fault_cause m n error.ReadFault h = inl h
fault_cause m n error.JudgeFault h = tt
fault_cause m n error.NoMemory h = tt

-- a fault of the check says as much as that of a build
heard_fault : (e : ValidateError) → validate_heard e ≡ build_heard (fault_of e)
heard_fault error.ReadFault = refl
heard_fault error.JudgeFault = refl
heard_fault error.NoMemory = refl

-- ---- a panel

module _ {J : Type 0} {says : J → Question → Verdict} {times faults : J → ℕ} where
  -- the check had an answer, and then comes one by which no judge failed
  pub hears_valid :
      {T U : Type 0} {Asks : (Question → Verdict) → List Question → Type 0} (old new : Vec J Global) (x : T)
      (r : Result U BuildError)
      → IfErr r (λ e. IsUnjudged (kind_of e))
      → HearsPanel {T = T} says times faults validate_heard Asks old new (Ok x)
      → HearsPanel says times faults build_heard Asks old new r
  hears_valid {T} {U} {Asks} old new x r quiet h =
      hears_later {T = T} {U = U} says times faults validate_heard build_heard Asks Asks old new x r
      (never_broken r quiet) (λ qs asks. asks) h

  -- the check failed
  pub hears_fault :
      {T U : Type 0} {Asks : (Question → Verdict) → List Question → Type 0} (old new : Vec J Global) (e : ValidateError)
      (f : BuildError)
      → f ≡ fault_of e → HearsPanel {T = T} says times faults validate_heard Asks old new (Err e)
      → HearsPanel {T = U} says times faults build_heard Asks old new (Err f)
  hears_fault {T} {U} {Asks} old new e f is h =
      hears_error {T = T} {U = U} says times faults validate_heard build_heard Asks Asks old new e f
      (subst (λ (x : BuildError). validate_heard e ≡ build_heard x) (sym is) (heard_fault e)) (λ qs asks. asks) h
