-- Pieces of a file, as they are read one after the other.
use Rattle.std.proofs.Common.{◌≡◌, ℕ, ◌+◌, ◌-◌, ◌≤◌, List, ◌++◌, length, take, drop, ap, ◌∙◌, arith}
use Rattle.std.proofs.lemmas.List.{take-append-le, take_all}
use Rattle.c2_copying.specs.Writing.{piece_of}
use Rattle.c2_copying.proofs.TheLaws.{parts_join, piece_from}

-- the piece up to a place and the next one, as it was read into a buffer
pub read_piece : (file bytes piece rest : List ℕ) (from at n : ℕ) → from ≤ at → length piece ≡ n
    → bytes ≡ piece_of file from at → piece ≡ take (length piece) (drop at file)
    → bytes ++ take n (piece ++ rest) ≡ piece_of file from (at + n)
read_piece file bytes piece rest from at n le size front is =
    let cut : take n (piece ++ rest) ≡ piece =
    take-append-le n piece rest (omega (arith, size)) ∙ take_all n piece (omega (arith, size)) in
    ap (λ (x : List ℕ). bytes ++ x) (cut ∙ is ∙ piece_from file at n (length piece) size)
    ∙ ap (λ (x : List ℕ). x ++ piece_of file at (at + n)) front ∙ parts_join file from at (at + n) le (omega arith)

-- a whole file is a piece of it
pub whole_piece : (size : ℕ) (file bytes : List ℕ) → size ≡ length file → bytes ≡ piece_of file 0 size → bytes ≡ file
whole_piece size file bytes same is =
    let none : size - 0 ≡ size = omega arith in
    is ∙ ap (λ (n : ℕ). take n file) none ∙ take_all size file (omega (arith, same))
