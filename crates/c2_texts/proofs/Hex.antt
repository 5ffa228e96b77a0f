-- Bytes in hex.
use Rattle.std.proofs.Common.{◌≡◌, ℕ, ◌+◌, ◌/◌, ◌%◌, ◌<◌, ◌≤◌, List, [], ◌∷◌, ◌++◌, length, drop, slice_index, append_assoc, append-nil}
use Rattle.std.proofs.lemmas.List.{drop_all}
use Rattle.hex.specs.Hex.{encode_lower, encode_with, lower_digits}
use Rattle.hex.proofs.Pairs.{encode_with-drop}

-- with the two digits of one byte more, the text goes on to the same end with the bytes behind it
pub hex_more : (bytes old one two w : List ℕ) (i : ℕ) → i < length bytes → old ++ encode_lower (drop i bytes) ≡ w
    → one ≡ old ++ slice_index lower_digits (slice_index bytes i / 16) ∷ []
    → two ≡ one ++ slice_index lower_digits (slice_index bytes i % 16) ∷ []
    → two ++ encode_lower (drop (i + 1) bytes) ≡ w
hex_more bytes old one two w i below so_far first second =
    let rest = encode_with-drop lower_digits bytes i below in
    simp (second, first, append_assoc) (rw rest at so_far)

-- behind the last byte there are no digits more
pub hex_all : (bytes text w : List ℕ) (i : ℕ) → length bytes ≤ i → text ++ encode_lower (drop i bytes) ≡ w → text ≡ w
unfolding encode_with
hex_all bytes text w i past so_far =
    let none = drop_all i bytes past in
    rw (none, append-nil) at so_far
