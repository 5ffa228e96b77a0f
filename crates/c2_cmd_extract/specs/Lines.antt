-- The line of the report of `extract`.
use Rattle.std.specs.Prelude.{ℕ, List, ◌++◌, codes, decimal}
use Rattle.c2_compare_spec.specs.EvidenceText.{text_line}

-- how many bytes the store has that was written
abbrev pub extracted_line : ℕ → List ℕ
extracted_line length = text_line (codes "extracted " ++ decimal length)
