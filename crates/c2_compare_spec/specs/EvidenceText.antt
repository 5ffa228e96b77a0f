-- The text of evidence (this project's own choice): one line that says what binds the lists and where
-- the first stands, and then each list as a line of hex digits. Of a signature the contents of its box
-- come before the two claims.
use Rattle.std.specs.Prelude.{ℕ, nat_lt, ◌==◌, ◌||◌, List, [], ◌∷◌, ◌++◌, map, codes, if◌then◌else◌}
use Rattle.std.specs.List.{concat}
use Rattle.hex.specs.Hex.{encode_lower}
use Rattle.c2_compare_spec.specs.Evidence.{BoundBy, by_digest, by_signature, ListPair}

-- a line of text ends with a line feed
abbrev pub text_line : List ℕ → List ℕ
text_line text = text ++ 0x0A ∷ []

-- a list of bytes as a line of hex digits
abbrev pub hex_line : List ℕ → List ℕ
hex_line bytes = text_line (encode_lower bytes)

-- a byte of a location as it is printed: a control byte as a question mark
abbrev pub printed_byte : ℕ → ℕ
printed_byte b = if nat_lt b 0x20 || b == 0x7F then 0x3F else b

-- a location as it is printed
abbrev pub printed : List ℕ → List ℕ
printed location = map printed_byte location

-- the line before all others: what binds the lists, and the location of the first
abbrev pub head_line : BoundBy → List ℕ → List ℕ
head_line (by_digest name) location =
    text_line (codes "evidence digest " ++ name ++ codes " " ++ printed location)
head_line (by_signature box) location =
    text_line (codes "evidence signature " ++ printed location)

-- the lines between the first and those of the two lists: the contents of the signature box, where a
-- signature binds them
abbrev pub box_lines : BoundBy → List (List ℕ)
box_lines (by_digest name) = []
box_lines (by_signature box) = hex_line box.contents ∷ []

-- the lines that tell of a pair
abbrev pub evidence_lines : ListPair → List (List ℕ)
evidence_lines p =
    head_line p.bound_by p.location
    ∷ (box_lines p.bound_by ++ hex_line p.left ∷ hex_line p.right ∷ [])

-- the text of evidence: these lines, one after the other
abbrev pub evidence_text : ListPair → List ℕ
evidence_text p = concat (evidence_lines p)
