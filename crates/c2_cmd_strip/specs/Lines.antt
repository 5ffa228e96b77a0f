-- The lines of the report of `strip`.
use Rattle.std.specs.Prelude.{ℕ, List, ◌++◌, codes, decimal}
use Rattle.c2_compare_spec.specs.EvidenceText.{text_line}

-- the range that was left out of a file
abbrev pub stripped_line : ℕ → ℕ → List ℕ
stripped_line start length = text_line (codes "stripped " ++ decimal start ++ codes " " ++ decimal length)

-- the place of a box that isn't taken out, since other boxes follow it
abbrev pub middle_line : ℕ → List ℕ
middle_line place = text_line (codes "strip Middle " ++ decimal place)
