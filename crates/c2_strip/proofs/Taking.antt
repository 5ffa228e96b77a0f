-- A file less a range, by its two parts.
use Rattle.std.proofs.Common.{◌≡◌, ℕ, ◌+◌, ◌-◌, List, ◌++◌, length, take, drop, ap, ap₂, arith}
use Rattle.std.proofs.lemmas.List.{take_all, length-drop}
use Rattle.c2_base.specs.declared.values.Range.{Range}
use Rattle.c2_copying.specs.Writing.{piece_of}
use Rattle.c2_strip.specs.Stripping.{stripped}

-- the part of a file in front of a range, and the part behind it
pub parts_outside : (file : List ℕ) (range : Range) (size : ℕ) → size ≡ length file
    → piece_of file 0 range.start ++ piece_of file (range.start + range.length) size ≡ stripped range file
parts_outside file range size same =
    let none : range.start - 0 ≡ range.start = omega arith in
    let front : piece_of file 0 range.start ≡ take range.start file = ap (λ (n : ℕ). take n file) none in
    let back : piece_of file (range.start + range.length) size ≡ drop (range.start + range.length) file =
    take_all (size - (range.start + range.length)) (drop (range.start + range.length) file)
    (omega (arith, length-drop (range.start + range.length) file, same)) in
    ap₂ (λ (x y : List ℕ). x ++ y) front back
