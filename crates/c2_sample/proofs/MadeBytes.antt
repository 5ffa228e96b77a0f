-- The media and the message are bytes.
use Rattle.std.proofs.Common.{◌≡◌, ◌∙◌, refl, ap, ap₂, arith, ℕ, zero, suc, ◌+◌, ◌*◌, ◌<◌, ◌^◌, Bool, true, ◌&&◌, nat_lt, List, [], ◌∷◌, lt-ltb, ltb-true}
use Rattle.std.specs.List.{All, list_all}
use Rattle.std.proofs.lemmas.List.Folds.{list_all-append}
use Rattle.std.proofs.lemmas.Nat.{mod_below}
use Rattle.c2_sample.specs.declared.media.TheConstants.{PIECE_BYTES}
use Rattle.c2_sample.specs.Sample.{piece, piece_byte, piece_bytes, pieces, sample_media, sample_message}
use Rattle.c2_lemmas.proofs.Bools.{both_true}

-- whether a number is a byte
abbrev is_byte : ℕ → Bool
is_byte b = nat_lt b 256

-- a list whose numbers pass the test is bytes
are_bytes : (xs : List ℕ) → list_all is_byte xs ≡ true → All (λ b. b < 2 ^ 8) xs
are_bytes [] e k d lt = absurd (omega arith)
are_bytes (x ∷ xs) e zero d lt = ltb-true x 256 (both_true (is_byte x) (list_all is_byte xs) e).0
are_bytes (x ∷ xs) e (suc k) d lt = are_bytes xs (both_true (is_byte x) (list_all is_byte xs) e).1 k d (omega arith)

-- the bytes of a piece are bytes
piece_passes : (i k : ℕ) → list_all is_byte (piece_bytes i k) ≡ true
unfolding piece_bytes
piece_passes i zero = refl
piece_passes i (suc k) =
    list_all-append is_byte (piece_bytes i k) (piece_byte i k ∷ [])
    ∙ ap₂ (λ (a b : Bool). a && (b && true)) (piece_passes i k)
    (lt-ltb (piece_byte i k) 256 (mod_below (31 * i + 7 * k) 256 (omega arith)))

-- the bytes of all pieces are bytes
pieces_pass : (n : ℕ) → list_all is_byte (pieces n) ≡ true
unfolding pieces
pieces_pass zero = refl
pieces_pass (suc n) =
    list_all-append is_byte (pieces n) (piece n)
    ∙ ap₂ (λ (a b : Bool). a && b) (pieces_pass n) (piece_passes n PIECE_BYTES)

-- the media is bytes
pub media_bytes : (n : ℕ) → All (λ b. b < 2 ^ 8) (sample_media n)
media_bytes n =
    are_bytes (sample_media n)
    (list_all-append is_byte (pieces n) (0xFF ∷ (0xD9 ∷ [])) ∙ ap (λ (b : Bool). b && true) (pieces_pass n))

-- the message is bytes
pub message_bytes : All (λ b. b < 2 ^ 8) sample_message
message_bytes = are_bytes sample_message refl
