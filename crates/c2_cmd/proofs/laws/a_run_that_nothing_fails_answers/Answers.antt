use Rattle.std.proofs.Common.{◌≡◌, refl, inl, inr, ◌⊎◌, Option}
use Rattle.c2_cmd_outcome.specs.Outcome.{Outcome}
use Rattle.c2_cmd_outcome.specs.Status.{IfAnswered}
use Rattle.c2_cmd_outcome.specs.declared.types.Status.{Status}
use Rattle.c2_cmd_outcome.specs.declared.types.Status.TheVariants.{Done, Failing, Refused, NoStore, Usage, InputFault, OutputFault, JudgeFault, NoMemory, DifferentClaims, Evidence, BuildRefused, NotAccepted, StripRefused}
use Rattle.c2_usage.specs.declared.types.Roles.{Roles}
use Rattle.c2_cmd.specs.Run.{Faults, HasAnswered, IsCaused, NoneFailed, RunState}
use Rattle.c2_cmd.proofs.laws.a_run_that_nothing_fails_answers.Goals as goal

-- a fault has a cause, which is one of those that are ruled out
answers : (roles : Option Roles) (f : Faults) (expected : Outcome) (old new : RunState) (s : Status)
    → IsCaused roles f s → NoneFailed roles f → IfAnswered (HasAnswered expected old new s) s
    → (s ≡ NoMemory) ⊎ HasAnswered expected old new s
answers roles f expected old new Done cause none h = inr h
answers roles f expected old new Failing cause none h = inr h
answers roles f expected old new Refused cause none h = inr h
answers roles f expected old new NoStore cause none h = inr h
answers roles f expected old new Usage cause none h = inr h
answers roles f expected old new InputFault cause none h = absurd (none.sources (cause.input refl))
answers roles f expected old new OutputFault cause none h = absurd (none.sinks (cause.output refl))
answers roles f expected old new JudgeFault cause none h = absurd (none.judges (cause.judge_fault refl))
answers roles f expected old new NoMemory cause none h = inl refl
answers roles f expected old new DifferentClaims cause none h = inr h
answers roles f expected old new Evidence cause none h = inr h
answers roles f expected old new BuildRefused cause none h = inr h
answers roles f expected old new NotAccepted cause none h = inr h
answers roles f expected old new StripRefused cause none h = inr h

-- so a run answers, or memory ran out
pub returns : goal.returns
returns c = answers
