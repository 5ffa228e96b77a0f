-- What two accepted files come to, and what is written of it.
use Rattle.std.specs.Prelude.{◌≡◌, ◌⊎◌, ℕ, List, Ok, Err}
use Rattle.std.specs.declared.option.Option.{Option}
use Rattle.std.specs.declared.result.Result.{Result}
use Rattle.c2_base.specs.Sink.{Appends, HasWrittenPrefix}
use Rattle.c2_base.specs.declared.values.Question.{Question}
use Rattle.c2_spec.specs.declared.digest.Alg.{Alg}
use Rattle.c2_spec.specs.declared.panel.Verdict.{Verdict}
use Rattle.c2_compare_spec.specs.Comparison.{IsComparison}
use Rattle.c2_compare_spec.specs.declared.compared.Compared.{Compared}
use Rattle.c2_compare_evidence.specs.declared.error.CompareError.{CompareError}

-- What is answered is what the two files come to, and its text was written; after an error nothing was, or a prefix of the text.
abbrev pub IsComparedAs : (Alg → List ℕ → List ℕ) → (Question → Verdict) → List ℕ → List ℕ
    → Option (List ℕ) → Option (List ℕ) → Result Compared CompareError → Type 0
IsComparedAs hash said first second old new (Ok what) =
    (text : List ℕ) × IsComparison hash said first second what text × Appends old new text
IsComparedAs hash said first second old new (Err e) =
    (new ≡ old)
    ⊎ ((what : Compared) × (text : List ℕ) × IsComparison hash said first second what text
    × HasWrittenPrefix old new text)
