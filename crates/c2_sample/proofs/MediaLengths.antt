-- How long the media of a sample is.
use Rattle.std.proofs.Common.{◌≡◌, refl, arith, ℕ, zero, suc, ◌+◌, ◌*◌, [], ◌∷◌, length}
use Rattle.std.proofs.lemmas.List.{length-append}
use Rattle.c2_sample.specs.Sample.{piece, piece_byte, piece_bytes, pieces, sample_media}
use Rattle.c2_sample.specs.declared.media.TheConstants.{PIECE_BYTES}

-- so many bytes of a piece
piece_bytes_len : (i j : ℕ) → length (piece_bytes i j) ≡ j
unfolding piece_bytes
piece_bytes_len i zero = refl
piece_bytes_len i (suc j) = omega (arith, length-append (piece_bytes i j) (piece_byte i j ∷ []), piece_bytes_len i j)

-- so many pieces have 1,004 bytes each
pieces_len : (n : ℕ) → length (pieces n) ≡ 1004 * n
unfolding pieces
pieces_len zero = refl
pieces_len (suc n) = omega (arith, length-append (pieces n) (piece n), pieces_len n, piece_bytes_len n PIECE_BYTES)

-- the media of so many pieces has this length
pub media_len : (n : ℕ) → length (sample_media n) ≡ 4 + 1004 * n
media_len n = omega (arith, length-append (pieces n) (0xFF ∷ (0xD9 ∷ [])), pieces_len n)
