-- For private clauses: what is asked over the reached manifests of a store, and how far the check came with them.
use Rattle.std.specs.Prelude.{◌≡◌, ℕ, List, ◌++◌, Ok, length}
use Rattle.std.specs.declared.alloc.Global.{Global}
use Rattle.std.specs.declared.vec.Vec.{Vec}
use Rattle.c2_base.specs.declared.values.Question.{Question}
use Rattle.c2_spec.specs.declared.digest.Alg.{Alg}
use Rattle.c2_spec.specs.declared.panel.Verdict.{Verdict}
use Rattle.c2_rules.specs.Asking.{HearsPanel}
use Rattle.c2_rules.specs.CheckList.{asked_below, judged_tests}
use Rattle.c2_rules.specs.Readings.{Reading}
use Rattle.c2_calls_spec.specs.Asks.{AsksThese}
use Rattle.c2_chain.specs.Checked.{chain_heard}
use Rattle.c2_chain.specs.declared.asking.ChainError.{ChainError}
use Rattle.c2_chain.specs.declared.asking.ChainError.TheVariants as chain
use Rattle.c2_opening.specs.declared.error.ValidateError.{ValidateError}
use Rattle.c2_opening.specs.declared.error.ValidateError.TheVariants.{JudgeFault, NoMemory}

-- the fault of a check that reads a source, as one that reads none has it
abbrev pub fault_of : ChainError → ValidateError
fault_of chain.JudgeFault = JudgeFault
fault_of chain.NoMemory = NoMemory

-- the questions that are asked of a chain: that of each reached manifest, the last first, while no rule of a later one fails
abbrev pub ChainAsks : (Alg → List ℕ → List ℕ) → List Reading → (Question → Verdict) → List Question
    → Type 0
ChainAsks hash rs said qs = qs ≡ asked_below (judged_tests hash said) rs (length rs)

-- The first of these questions were asked, up to the rest, and no judge failed.
pub record HasAskedBefore {J : Type 0} (says : J → Question → Verdict) (times faults : J → ℕ)
    (all rest : List Question) (old new : Vec J Global) : Type 0 where
  pub front : List Question
  pub split : all ≡ front ++ rest
  pub heard : HearsPanel {T = List Question} {E = ChainError} says times faults chain_heard
      (AsksThese front) old new (Ok front)
