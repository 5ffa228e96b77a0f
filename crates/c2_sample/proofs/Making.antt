-- Bytes that are appended one after the other.
use Rattle.std.proofs.Common.{◌≡◌, ◌∙◌, sym, ap, ap₂, ℕ, ◌+◌, List, [], ◌∷◌, ◌++◌, append_assoc, add-one}
use Rattle.c2_sample.specs.Sample.{piece, piece_byte, piece_bytes, pieces}

-- a piece with so many of its bytes
abbrev pub begun : ℕ → ℕ → List ℕ
begun i j = 0xFF ∷ (0xFE ∷ (0x03 ∷ (0xEA ∷ piece_bytes i j)))

-- at first it has none
pub begun_first : (old new : List ℕ) (i : ℕ) → new ≡ old ++ (0xFF ∷ (0xFE ∷ (0x03 ∷ (0xEA ∷ []))))
    → new ≡ old ++ begun i 0
unfolding piece_bytes
begun_first old new i e = e

-- a begun piece with its next byte is begun with one byte more
pub begun_next : (old mid new : List ℕ) (i j b : ℕ) → mid ≡ old ++ begun i j → b ≡ piece_byte i j → new ≡ mid ++ b ∷ []
    → new ≡ old ++ begun i (j + 1)
unfolding piece_bytes
begun_next old mid new i j b so_far is e =
    e ∙ ap₂ (λ (m : List ℕ) (x : ℕ). m ++ x ∷ []) so_far is ∙ append_assoc old (begun i j) (piece_byte i j ∷ [])
    ∙ ap (λ (k : ℕ). old ++ begun i k) (sym (add-one j))

-- media with so many pieces, before EOI
abbrev pub media_begun : ℕ → List ℕ
media_begun n = 0xFF ∷ (0xD8 ∷ pieces n)

-- at first there is none
pub media_first : (new : List ℕ) → new ≡ 0xFF ∷ (0xD8 ∷ []) → new ≡ media_begun 0
unfolding pieces
media_first new e = e

-- media with so many pieces and the next one has one piece more
pub media_next : (mid new : List ℕ) (n : ℕ) → mid ≡ media_begun n → new ≡ mid ++ piece n → new ≡ media_begun (n + 1)
unfolding pieces
media_next mid new n so_far e = e ∙ ap (λ (m : List ℕ). m ++ piece n) so_far ∙ ap media_begun (sym (add-one n))
