-- The laws of this crate, for the proofs of the crates above it: pieces of a file, one after the other.
use Rattle.c2_copying.specs.Writing.{piece_of}
use Rattle.std.proofs.Common.{List, [], ap, arith, drop, sym, take, ℕ, ◌++◌, ◌+◌, ◌-◌, ◌∙◌, ◌≡◌, ◌≤◌}
use Rattle.std.proofs.Math.Seq.{take-add}
use Rattle.std.proofs.lemmas.List.{drop-drop}

-- two parts of a file, one after the other
pub parts_join : (file : List ℕ) (from at to : ℕ) → from ≤ at → at ≤ to
    → piece_of file from at ++ piece_of file at to ≡ piece_of file from to
parts_join file from at to a b =
    let one : from + (at - from) ≡ at = omega arith in
    let two : at - from + (to - at) ≡ to - from = omega arith in
    let back : drop (at - from) (drop from file) ≡ drop at file =
    drop-drop (at - from) from file ∙ ap (λ (n : ℕ). drop n file) one in
    let all : take (at - from + (to - at)) (drop from file) ≡ take (at - from) (drop from file) ++ take (to - at) (drop (at - from) (drop from file)) =
    take-add (at - from) (to - at) (drop from file) in
    sym
    (sym (ap (λ (n : ℕ). take n (drop from file)) two) ∙ all ∙ ap (λ (x : List ℕ). take (at - from) (drop from file) ++ take (to - at) x) back)

-- the piece from a place on, of so many bytes
pub piece_from : (file : List ℕ) (at n m : ℕ) → m ≡ n → take m (drop at file) ≡ piece_of file at (at + n)
piece_from file at n m same = let size : m ≡ at + n - at = omega (arith, same) in ap (λ (k : ℕ). take k (drop at file)) size

-- no bytes are between a place and itself
pub piece_none : (file : List ℕ) (at : ℕ) → piece_of file at at ≡ []
piece_none file at = let none : at - at ≡ 0 = omega arith in ap (λ (n : ℕ). take n (drop at file)) none
