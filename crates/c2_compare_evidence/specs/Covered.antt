-- The covered texts of two files.
use Rattle.std.specs.Prelude.{◌≡◌, ℕ, List, ◌++◌, Option, codes}
use Rattle.hex.specs.Hex.{encode_lower}
use Rattle.c2_base.specs.Sink.{Appends}
use Rattle.c2_compare_spec.specs.EvidenceText.{hex_line}

-- the first line of evidence on covered texts
unfoldable pub covered_head : List ℕ → List ℕ
covered_head alg = codes "evidence digest " ++ alg ++ codes " covered\n"

-- the text of evidence on covered texts
abbrev pub covered_evidence : List ℕ → List ℕ → List ℕ → List ℕ
covered_evidence alg left right =
    covered_head alg ++ (hex_line left ++ hex_line right)

-- Of a text in hex, so much was written, and this is still to come.
pub record IsWrittenTo (text rest : List ℕ) (old now : Option (List ℕ)) : Type 0 where
  pub done : List ℕ
  pub written : Appends old now (encode_lower done)
  pub joined : text ≡ done ++ rest
