-- Conditions that hold: one by one, and at each place of a list. And the one by which bytes are compared.
use Rattle.std.proofs.Common.{◌≡◌, zero, suc, Bool, true, false, cond, List, [], ◌∷◌, Some, None, refl, sym, ap, ◌∙◌}
use Rattle.std.specs.List.{AllByRecursion}
use Rattle.c2_rules.specs.Tests.{AllHold, Test, first_failing}

-- a condition holds
abbrev pub Holds : Test → Type 0
Holds t = t.fails ≡ false

-- conditions that hold one by one hold at each place of the list
pub all_hold : (ts : List Test) → AllByRecursion Holds ts → AllHold ts
all_hold [] h i t e = absurd (cc (e))
all_hold (u ∷ ts) h zero t e = let same : u ≡ t = cc (e) in ap (λ (x : Test). x.fails) (sym same) ∙ h.0
all_hold (u ∷ ts) h (suc i) t e = all_hold ts h.1 i t e

-- what holds at each place holds of each
pub all_each : (ts : List Test) → AllHold ts → AllByRecursion Holds ts
all_each [] h = tt
all_each (t ∷ ts) h = (h 0 t refl, all_each ts (λ i u e. h (suc i) u e))

-- conditions of which none fails hold one by one
pub none_holds : (ts : List Test) → first_failing ts ≡ None → AllByRecursion Holds ts
none_holds [] e = tt
none_holds (t ∷ ts) e = go t.fails refl e (none_holds ts)
  where
    go : (b : Bool) → t.fails ≡ b → cond b (Some t.failing) (first_failing ts) ≡ None
        → (first_failing ts ≡ None → AllByRecursion Holds ts) → AllByRecursion Holds (t ∷ ts)
    go true is none rest = absurd (cc (none))
    go false is none rest = (is, rest none)
