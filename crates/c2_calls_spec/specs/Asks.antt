-- Which questions a call asks.
use Rattle.std.specs.Prelude.{◌≡◌, ℕ, List, Some}
use Rattle.std.specs.declared.option.Option.{Option}
use Rattle.c2_base.specs.declared.values.Question.{Question}
use Rattle.c2_spec.specs.declared.panel.Verdict.{Verdict}

-- just these questions are asked, whatever the panel says
abbrev pub AsksThese : List Question → (Question → Verdict) → List Question → Type 0
AsksThese all said qs = qs ≡ all

-- the questions are asked of which this holds by the bytes of a source, where it tells them
abbrev pub AsksKnown : Option (List ℕ) → (List ℕ → (Question → Verdict) → List Question → Type 0)
    → (Question → Verdict) → List Question → Type 0
AsksKnown known Asks said qs = (bytes : List ℕ) × (known ≡ Some bytes) × Asks bytes said qs
