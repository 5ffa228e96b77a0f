-- How many bytes a box has.
use Rattle.std.proofs.Common.{◌≡◌, ℕ, ◌+◌, List, length, ap, ◌∙◌, arith, length-append}
use Rattle.std.specs.Int.{w64, to_be_bytes}
use Rattle.c2_spec.specs.Bmff.Boxes.{SizeForm, short, long, to_end, Box, IsBox, box_bytes, box_len, header_bytes, header_len}

-- a header has its length
pub header_size : (f : SizeForm) (n : ℕ) (k : List ℕ) → length k ≡ 4 → length (header_bytes f n k) ≡ header_len f
header_size short n k four = omega (arith, four)
header_size long n k four = omega (arith, four, length-append k (to_be_bytes w64 n))
header_size to_end n k four = omega (arith, four)

-- a box has its length
pub bytes_size : (b : Box) → IsBox b → length (box_bytes b) ≡ box_len b
bytes_size b h =
    length-append (header_bytes b.form (box_len b) b.kind) b.payload
    ∙ ap (λ n. n + length b.payload) (header_size b.form (box_len b) b.kind h.kind)
