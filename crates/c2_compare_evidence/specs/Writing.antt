-- For private clauses: texts that are written in pieces.
use Rattle.std.specs.Prelude.{ℕ, List, [], ◌∷◌, ◌++◌, Option, Result, OnOk, codes}
use Rattle.std.specs.List.{concat}
use Rattle.hex.specs.Hex.{encode_lower}
use Rattle.c2_base.specs.Sink.{Appends, HasWrittenPrefix}
use Rattle.c2_compare_spec.specs.EvidenceText.{hex_line, printed}
use Rattle.c2_compare_evidence.specs.Shown.{ShownBy, by_name, by_box}
use Rattle.c2_compare_evidence.specs.declared.pieces.Piece.{Piece}
use Rattle.c2_compare_evidence.specs.declared.pieces.Piece.TheVariants.{Plain, Printed, Hex}

-- a text was written, or after a failure a prefix of it
pub record IsWritten {T E : Type 0} (text : List ℕ) (old new : Option (List ℕ))
    (result : Result T E) : Type 0 where
  pub whole : OnOk result (Appends old new text)
  pub prefix : HasWrittenPrefix old new text

-- the text of a piece
abbrev pub piece_text : Piece → List ℕ
piece_text (Plain text) = text.now
piece_text (Printed text) = printed text.now
piece_text (Hex bytes) = encode_lower bytes.now

-- the text of evidence before the location
abbrev pub opening : ShownBy → List ℕ
opening (by_name name) = codes "evidence digest " ++ name ++ codes " "
opening (by_box contents) = codes "evidence signature "

-- the lines between the first and those of the two lists
abbrev pub box_lines : ShownBy → List (List ℕ)
box_lines (by_name name) = []
box_lines (by_box contents) = hex_line contents ∷ []

-- the end of the first line, and the others
abbrev pub later_lines : ShownBy → List ℕ → List ℕ → List ℕ
later_lines by left right =
    0x0A ∷ concat (box_lines by ++ hex_line left ∷ hex_line right ∷ [])
