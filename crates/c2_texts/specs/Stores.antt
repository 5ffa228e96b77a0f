-- The line of reports on an external store.
use Rattle.std.specs.Prelude.{ℕ, List, ◌++◌, codes, decimal}
use Rattle.c2_spec.specs.declared.reason.Reason.{Reason}
use Rattle.c2_spec.specs.Reason.{reason_name}
use Rattle.c2_compare_spec.specs.EvidenceText.{text_line}

-- a refusal of an external store, with its number
abbrev pub store_refused_line : Reason → ℕ → List ℕ
store_refused_line reason number =
    text_line (codes "refused store " ++ reason_name reason ++ codes " " ++ decimal number)
