-- Byte tests a piece at a time, and positions a row at a time.
use Rattle.std.proofs.Common.{◌≡◌, ℕ, ◌+◌, ◌-◌, ◌≤◌, Bool, true, false, ◌&&◌, List, [], ◌∷◌, length, take, drop, refl, sym, ap, ap₂, ◌∙◌, arith}
use Rattle.std.specs.Prelude.{bytes_eq}
use Rattle.std.specs.List.{list_any}
use Rattle.std.proofs.lemmas.List.{length-drop, length-take-le, drop-drop, take-append-drop, take-take, drop-take}
use Rattle.c2_base.specs.declared.values.Range.{Range}
use Rattle.c2_bmff_excluded.specs.Marks.{in_row, in_row_part, stands_at}
use Rattle.c2_bmff_rows.specs.declared.row.RootBox.{RootBox}
use Rattle.c2_spec.specs.Bmff.Hash.{in_part}
use Rattle.c2_lemmas.proofs.Parts.{eq_append}

-- the first bytes of a value, and the others
pub stands_split : (file : List ℕ) (at : ℕ) (value : List ℕ) (n : ℕ) → n ≤ length value
    → at + length value ≤ length file
    → stands_at file at value ≡ (bytes_eq (take n (drop at file)) (take n value) && stands_at file (at + n) (drop n value))
stands_split file at value n inside fits =
    let all : List ℕ = take (length value) (drop at file) in
    let size : length all ≡ length value =
    length-take-le (length value) (drop at file) (omega (arith, length-drop at file, fits)) in
    let rest : length value ≡ n + length (drop n value) = omega (arith, length-drop n value, inside) in
    ap₂ bytes_eq (sym (take-append-drop n all)) (sym (take-append-drop n value))
    ∙ eq_append (take n all) (take n value) (drop n all) (drop n value)
    (length-take-le n all (omega (arith, size, inside)) ∙ sym (length-take-le n value inside))
    ∙ ap₂ (λ (a b : Bool). a && b)
    (ap (λ (xs : List ℕ). bytes_eq xs (take n value)) (take-take n (length value) (drop at file) inside))
    (ap (λ (xs : List ℕ). bytes_eq xs (drop n value)) (ap (λ k. drop n (take k (drop at file))) rest ∙ drop-take n (length (drop n value)) (drop at file) ∙ ap (take (length (drop n value))) (drop-drop n at file)))

-- ---- lists

-- a test that doesn't hang on the member
pub and_any : {A : Type 0} (b : Bool) (p : A → Bool) (xs : List A) → list_any (λ x. b && p x) xs ≡ (b && list_any p xs)
and_any true p xs = refl
and_any false p [] = refl
and_any false p (x ∷ xs) = and_any false p xs

-- the parts of a box, and its subset
pub parts_are : (i : ℕ) (r : RootBox) (parts : List Range)
    → list_any (in_row_part i r) parts ≡ (in_row i r && list_any (in_part (i - r.start)) parts)
parts_are i r parts = and_any (in_row i r) (in_part (i - r.start)) parts

-- a range of nothing
abbrev pub no_range : Range
no_range = record { start = 0; length = 0 }
